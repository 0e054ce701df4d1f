-- Each answer fits, so the bits of the locals read as the integers.
use borrow.Author.Rules.{rules, sfits_of}
use mathlib.Core.Path.{◌≡◌, ◌∙◌}
use mir.Syntax.{w64}
use mir.Val.{SFits}
use mir.Facts.{to_z-of_z}
use Rattle.integers.proofs.Laws.Signed64.{rd}
use Rattle.plan.specs.Lists.{int_at}
use Rattle.timing.proofs.Laws.Arithmetic.{upper-read, lower-read}
use Rattle.moves.specs.Motion.{position_then, slope_from}
use Rattle.moves.proofs.Laws.Moving.{move_stores}
use Rattle.moves.proofs.move_one.Goals.{Start, After-position_at-x_then, After-rate-slope}
use Rattle.moves.proofs.move_one.Goals as goal

-- where the integrator is at t, and its new slope
x_then : (c : After-position_at-x_then) → let a = c.args in
    rd c.position_at-x_then.result
    ≡ position_then a.plan.now a.ranges.now a.t a.values.now a.i a.motion.now
unfolding position_then
x_then c = to_z-of_z {w = w64} (sfits_of c.position_at-x_then.type_inv) ∙ c.position_at-x_then.ensures

slope : (c : After-rate-slope) → let a = c.args in
    rd c.rate-slope.result ≡ slope_from a.plan.now a.ranges.now a.t a.values.now a.i
unfolding slope_from
slope c = to_z-of_z {w = w64} (sfits_of c.rate-slope.type_inv) ∙ c.rate-slope.ensures

-- what is read of its output and its quantum
output : (c : Start) → SFits w64 (int_at c.args.values.now c.args.i)
output c = record { sfits = search rules }

quantum : (c : Start) → SFits w64 (int_at c.args.plan.now.integrators.quanta c.args.i)
quantum c = record { sfits = search rules }

pub due_tick-requires : goal.due_tick-requires
due_tick-requires c =
    let at = goal.at.due_tick-requires c in let s = at.Start in let level = c.requires.level in
    rw (
      x_then at.After-position_at-x_then,
      slope at.After-rate-slope,
      upper-read level (output s) (quantum s),
      lower-read level (output s) (quantum s),
    ) c.requires.due

pub returns : goal.returns
returns c =
    let at = goal.at.returns c in let s = at.Start in let a = c.args in let level = c.requires.level in
    move_stores a.plan.now a.ranges.now a.t a.values.now a.i
    a.motion.now (x_then at.After-position_at-x_then) (slope at.After-rate-slope)
    (rw (upper-read level (output s) (quantum s), lower-read level (output s) (quantum s)) at c.due_tick.ensures)
