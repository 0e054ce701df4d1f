-- At each turn no entry below this one has a fault.
use Rattle.plan.specs.declared.Refusal.TheVariants.{Link}
use Rattle.planrules.specs.Checks.{link_at}
use Rattle.planrules.proofs.Laws.Findings.{CleanTo}
use Rattle.planrules.proofs.checks.check_links.Given as goal

abbrev pub invariant-loop-e : goal.invariant-loop-e
invariant-loop-e l = CleanTo (link_at l.n l.all l.links.targets l.links.sources l.links.coefficients) Link l.count l.e
