-- Working out the nodes that are left ends where working out all of the mask ends.
use Rattle.bitset.proofs.Laws.Visiting.{Walking}
use Rattle.values.specs.Sources.{node_step, NodesReady}
use Rattle.values.proofs.work_out_nodes.Given as goal

abbrev pub invariant-loop-j : goal.invariant-loop-j
invariant-loop-j l =
    Walking (node_step l.nodes l.base) 32 l.touched l.initial.values l.j-iterator.left l.values × NodesReady l.nodes l.values l.base l.k
