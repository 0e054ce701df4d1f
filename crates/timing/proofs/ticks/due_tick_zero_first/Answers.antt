-- A slope of 0 is the last case of the definition, the others are `due_tick`'s.
use mathlib.Core.Path.{◌≡◌, sym, ap, ◌∙◌}
use lib.IntN.{pos}
use mir.Syntax.{w64}
use mir.Val.{to_z}
use mir.Facts.{to_z-of_z}
use Rattle.timing.proofs.Laws.Arithmetic.{due-never}
use Rattle.timing.proofs.ticks.due_tick_zero_first.Goals as goal

pub returns-then-s-eq0 : goal.returns-then-s-eq0
returns-then-s-eq0 c =
    let zero : c.args.s ≡ pos 0 = sym (to_z-of_z c.ranges.s) ∙ ap (to_z w64) c.if-s-eq0.true in
    due-never _ _ _ _ _ c.requires (rw zero) (rw zero)

pub due_tick-requires : goal.due_tick-requires
due_tick-requires c =
    let f = c.ranges in rw (to_z-of_z f.x, to_z-of_z f.upper, to_z-of_z f.lower, to_z-of_z f.s) c.requires

pub returns : goal.returns
returns c =
    let f = c.ranges in rw (to_z-of_z f.x, to_z-of_z f.upper, to_z-of_z f.lower, to_z-of_z f.s) at c.due_tick.ensures
