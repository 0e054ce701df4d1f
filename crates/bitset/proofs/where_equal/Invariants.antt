-- `bitset::where_equal` meets its contract: the mask so far is that of the numbers passed. Assumes nothing.
use mathlib.Core.Path.{◌≡◌}
use lib.Dec.{eqb}
use lib.ListN.{get_or}
use Rattle.bitset.specs.Mask.{mask_of}
use Rattle.bitset.proofs.where_equal.Given as goal

abbrev pub invariant-loop-i : goal.invariant-loop-i
invariant-loop-i l = l.equal ≡ mask_of (λ k. eqb (get_or l.ticks k 0) l.t) l.i
