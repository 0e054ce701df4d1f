-- At each turn no entry below this one has a fault.
use Rattle.plan.specs.declared.Refusal.TheVariants.{Integrator}
use Rattle.planrules.specs.Checks.{integrator_at}
use Rattle.planrules.proofs.Laws.Findings.{CleanTo}
use Rattle.planrules.proofs.checks.check_integrators.Given as goal

abbrev pub invariant-loop-i : goal.invariant-loop-i
invariant-loop-i l = CleanTo (integrator_at l.integrators.starts l.integrators.quanta) Integrator l.n l.i
