-- The state for a turn is sound and the buffers have their room, and the ticks that are left fall, so that the loop ends.
use Rattle.std.specs.Prelude.{◌≡◌, length}
use Rattle.listingturns.proofs.Laws.Loop.{Ready, ticks_left}
use Rattle.listing.proofs.main.Given as goal

abbrev pub invariant-loop-turn : goal.invariant-loop-turn
invariant-loop-turn l = (length l.events ≡ 30720) × (length l.text ≡ 66600) × Ready l.turn

abbrev pub decreases-loop-turn : goal.decreases-loop-turn
decreases-loop-turn l = ticks_left l.turn
