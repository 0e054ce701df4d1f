-- At each turn no entry below this one has a fault.
use Rattle.plan.specs.declared.Refusal.TheVariants.{Input}
use Rattle.planrules.specs.Checks.{input_at}
use Rattle.planrules.proofs.Laws.Findings.{CleanTo}
use Rattle.planrules.proofs.checks.check_inputs.Given as goal

abbrev pub invariant-loop-j : goal.invariant-loop-j
invariant-loop-j l = CleanTo (input_at l.inputs.firsts) Input l.m l.j
