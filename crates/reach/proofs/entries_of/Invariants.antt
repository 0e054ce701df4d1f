-- The entries of those that have been taken are joined.
use Rattle.bitset.specs.Mask.{union}
use Rattle.bitset.proofs.Laws.Visiting.{Walking}
use Rattle.plan.specs.Lists.{nat_at}
use Rattle.reach.proofs.entries_of.Given as goal

abbrev pub invariant-loop-source : goal.invariant-loop-source
invariant-loop-source l =
    Walking (λ i entries. union entries (nat_at l.table i)) 64 l.changed 0 l.source-iterator.left l.entries
