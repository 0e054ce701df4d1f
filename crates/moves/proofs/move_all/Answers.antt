-- A turn moves the lowest integrator that is left, and the others stay movable.
use Rattle.bitset.proofs.Laws.Visiting.{walk_turn, walk_done}
use Rattle.moves.proofs.Laws.Moving.{movable_lowest, movable_rest}
use Rattle.moves.proofs.move_all.Goals as goal

pub move_one-requires : goal.move_one-requires
move_one-requires c =
    let (walk, movable) = c.loop-i.invariant in let taken = c.in-Some.ensures.steps in
    rw taken.1 (movable_lowest _ _ _ _ taken.0 walk.fits _ movable)

pub loop-i-preserved : goal.loop-i-preserved
loop-i-preserved c =
    let (walk, movable) = c.loop-i.invariant in let taken = c.in-Some.ensures.steps in
    rw c.move_one.ensures (walk_turn _ _ _ _ walk taken, rw (taken.1, taken.2) (movable_rest _ _ _ _ taken.0 walk.fits _ movable))

pub returns : goal.returns
returns c = walk_done _ _ _ _ c.loop-i.invariant.0 c.in-None.ensures.steps
