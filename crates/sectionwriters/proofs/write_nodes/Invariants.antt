-- The loop's invariant: the first j entries are written, and the rest is as it was.
use Rattle.plan.specs.Lists.{joined}
use Rattle.plan.specs.Encoding.{node_entry}
use Rattle.sectionwriters.proofs.Laws.Writing.{BeginsWith}
use Rattle.sectionwriters.proofs.write_nodes.Given as goal

abbrev pub invariant-loop-j : goal.invariant-loop-j
invariant-loop-j l = BeginsWith (joined (node_entry l.nodes.kinds l.nodes.a l.nodes.b l.nodes.lows l.nodes.highs) l.j) l.initial.buffer l.buffer
