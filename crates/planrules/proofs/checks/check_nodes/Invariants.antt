-- At each turn no entry below this one has a fault.
use Rattle.plan.specs.declared.Refusal.TheVariants.{Node}
use Rattle.planrules.specs.Checks.{node_at}
use Rattle.planrules.proofs.Laws.Findings.{CleanTo}
use Rattle.planrules.proofs.checks.check_nodes.Given as goal

abbrev pub invariant-loop-j : goal.invariant-loop-j
invariant-loop-j l = CleanTo (node_at l.base l.nodes.kinds l.nodes.a l.nodes.b l.nodes.lows l.nodes.highs) Node l.k l.j
