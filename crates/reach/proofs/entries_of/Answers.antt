-- Each turn joins one source's entry.
use Rattle.bitset.proofs.Laws.Visiting.{walk_turn, walk_done}
use Rattle.reach.specs.Table.{entries_of}
use Rattle.reach.proofs.entries_of.Goals as goal

pub loop-source-preserved : goal.loop-source-preserved
loop-source-preserved c =
    rw c.union-entries.ensures (walk_turn _ _ _ _ c.loop-source.invariant c.in-Some.ensures.steps)

pub returns : goal.returns
unfolding entries_of
returns c = walk_done _ _ _ _ c.loop-source.invariant c.in-None.ensures.steps
