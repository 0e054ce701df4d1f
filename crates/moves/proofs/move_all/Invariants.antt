-- Of the walk those that are left are movable still.
use Rattle.bitset.proofs.Laws.Visiting.{Walking}
use Rattle.moves.specs.Motion.{after_move, AllMovable}
use Rattle.moves.proofs.move_all.Given as goal

abbrev pub invariant-loop-i : goal.invariant-loop-i
invariant-loop-i l =
    Walking (after_move l.plan l.ranges l.t l.values) 32 l.moved l.initial.motion l.i-iterator.left l.motion
    × AllMovable l.plan l.ranges l.t l.values l.i-iterator.left l.motion
