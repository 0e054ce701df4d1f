-- At each turn no entry below this one has a fault.
use Rattle.plan.specs.declared.Refusal.TheVariants.{Command}
use Rattle.planrules.specs.Checks.{command_at}
use Rattle.planrules.proofs.Laws.Findings.{CleanTo}
use Rattle.planrules.proofs.checks.check_commands.Given as goal

abbrev pub invariant-loop-e : goal.invariant-loop-e
invariant-loop-e l = CleanTo (command_at l.horizon l.m l.commands.ticks l.commands.inputs l.commands.values) Command l.count l.e
