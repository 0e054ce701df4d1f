-- Each slope's branch is its case of the definition, read through the bits of the locals.
use mathlib.Core.Path.{◌≡◌, ◌∙◌}
use mathlib.Core.Bool.{true}
use native.Mathlib.Omega.{arith}
use lib.IntN.{pos, nat_abs, ◌-ℤ◌}
use lib.Signed.{lt_z}
use mir.Syntax.{w64}
use mir.Val.{SFits}
use mir.Facts.{to_z-of_z}
use Rattle.integers.specs.Division.{ceil_div}
use Rattle.integers.proofs.Laws.Signed64.{rd}
use Rattle.timing.proofs.Laws.Arithmetic.{rise_fits, fall_fits, speed_fits, TicksReady, rise_ready, fall_ready}
use Rattle.timing.proofs.Laws.Arithmetic.{distance_cast, speed_cast, speed_positive, tick-most, due_rise, due_fall, due-never}
use Rattle.timing.proofs.ticks.due_tick.Goals.{Start, Then-s-gt0, After-divide_up-ticks, Then-s-lt0, After-divide_up-ticks-then-s-lt0}
use Rattle.timing.proofs.ticks.due_tick.Goals as goal

-- what each branch works out fits, and its bits read as the definition's distance and speed
module _ (c : Start) where
  rise_difference : SFits w64 (rd c.args.upper -ℤ rd c.args.x)
  rise_difference = rw (to_z-of_z c.ranges.upper, to_z-of_z c.ranges.x) (rise_fits _ _ _ _ _ c.requires)

  rise_distance : rd (rd c.args.upper -ℤ rd c.args.x) ≡ c.args.upper -ℤ c.args.x
  rise_distance = to_z-of_z rise_difference ∙ rw (to_z-of_z c.ranges.upper, to_z-of_z c.ranges.x)

  fall_difference : SFits w64 (rd c.args.x -ℤ rd c.args.lower)
  fall_difference = rw (to_z-of_z c.ranges.x, to_z-of_z c.ranges.lower) (fall_fits _ _ _ _ _ c.requires)

  fall_distance : rd (rd c.args.x -ℤ rd c.args.lower) ≡ c.args.x -ℤ c.args.lower
  fall_distance = to_z-of_z fall_difference ∙ rw (to_z-of_z c.ranges.x, to_z-of_z c.ranges.lower)

  fall_speed : rd (pos 0 -ℤ rd c.args.s) ≡ pos 0 -ℤ c.args.s
  fall_speed = rw (to_z-of_z c.ranges.s) (to_z-of_z (speed_fits _ _ _ _ _ c.requires))

-- ---- a slope above 0

module _ (c : Then-s-gt0) where
  abbrev rising : Start
  rising = c.before

  rises : lt_z (pos 0) rising.args.s ≡ true
  rises = rw (to_z-of_z rising.ranges.s) at c.if-s-gt0.true

  rise : let a = rising.args in TicksReady a.from (a.upper -ℤ a.x) a.s
  rise = rise_ready _ _ _ _ _ rising.requires rises

rise_quotient : (c : After-divide_up-ticks) → let a = c.args in c.divide_up-ticks.result ≡ ceil_div (nat_abs (a.upper -ℤ a.x)) (nat_abs a.s)
rise_quotient c =
    let s = c.before.before in c.divide_up-ticks.ensures ∙ (λ i. ceil_div (nat_abs (rise_distance s i)) (nat_abs (to_z-of_z s.ranges.s i)))

pub overflow_sub-distance : goal.overflow_sub-distance
overflow_sub-distance c = rise_difference c.before

pub overflow_cast-distance : goal.overflow_cast-distance
overflow_cast-distance c = rw (rise_distance c.before) (distance_cast _ _ _ (rise c))

pub overflow_cast-s : goal.overflow_cast-s
overflow_cast-s c = rw (to_z-of_z c.ranges.s) (speed_cast _ _ _ (rise c))

pub divide_up-ticks-requires : goal.divide_up-ticks-requires
divide_up-ticks-requires c = rw (to_z-of_z c.ranges.s) (speed_positive _ _ _ (rise c))

pub overflow_add-result : goal.overflow_add-result
overflow_add-result c = omega (arith, tick-most _ _ _ (rise c.before) (rise_quotient c))

pub overflow_cast-result-then-s-gt0 : goal.overflow_cast-result-then-s-gt0
overflow_cast-result-then-s-gt0 c = omega (arith, tick-most _ _ _ (rise c.before) (rise_quotient c))

pub returns-then-s-gt0 : goal.returns-then-s-gt0
returns-then-s-gt0 c = due_rise _ _ _ _ _ c.requires (rises c.before) (rise_quotient c)

-- ---- a slope below 0

module _ (c : Then-s-lt0) where
  abbrev falling : Start
  falling = c.before.before

  falls : lt_z falling.args.s (pos 0) ≡ true
  falls = rw (to_z-of_z falling.ranges.s) at c.if-s-lt0.true

  fall : let a = falling.args in TicksReady a.from (a.x -ℤ a.lower) (pos 0 -ℤ a.s)
  fall = fall_ready _ _ _ _ _ falling.requires falls

fall_quotient : (c : After-divide_up-ticks-then-s-lt0) → let a = c.args in
    c.divide_up-ticks-then-s-lt0.result ≡ ceil_div (nat_abs (a.x -ℤ a.lower)) (nat_abs (pos 0 -ℤ a.s))
fall_quotient c =
    let s = c.before.before.before in c.divide_up-ticks-then-s-lt0.ensures ∙ (λ i. ceil_div (nat_abs (fall_distance s i)) (nat_abs (fall_speed s i)))

pub overflow_sub-distance-then-s-lt0 : goal.overflow_sub-distance-then-s-lt0
overflow_sub-distance-then-s-lt0 c = fall_difference c.before.before

pub overflow_cast-distance-then-s-lt0 : goal.overflow_cast-distance-then-s-lt0
overflow_cast-distance-then-s-lt0 c = rw (fall_distance c.before.before) (distance_cast _ _ _ (fall c))

pub overflow_sub-s : goal.overflow_sub-s
overflow_sub-s c = rw (to_z-of_z c.ranges.s) (speed_fits _ _ _ _ _ c.requires)

pub overflow_cast-s-then-s-lt0 : goal.overflow_cast-s-then-s-lt0
overflow_cast-s-then-s-lt0 c = rw (fall_speed c.before.before) (speed_cast _ _ _ (fall c))

pub divide_up-ticks-requires-then-s-lt0 : goal.divide_up-ticks-requires-then-s-lt0
divide_up-ticks-requires-then-s-lt0 c = rw (fall_speed c.before.before) (speed_positive _ _ _ (fall c))

pub overflow_add-result-then-s-lt0 : goal.overflow_add-result-then-s-lt0
overflow_add-result-then-s-lt0 c = omega (arith, tick-most _ _ _ (fall c.before) (fall_quotient c))

pub overflow_cast-result-then-s-lt0-2 : goal.overflow_cast-result-then-s-lt0-2
overflow_cast-result-then-s-lt0-2 c = omega (arith, tick-most _ _ _ (fall c.before) (fall_quotient c))

pub returns-then-s-lt0 : goal.returns-then-s-lt0
returns-then-s-lt0 c = due_fall _ _ _ _ _ c.requires (falls c.before) (fall_quotient c)

-- ---- a slope of 0

pub returns : goal.returns
returns c =
    let s = c.ranges.s in
    due-never _ _ _ _ _ c.requires (rw (to_z-of_z s) at c.if-s-gt0.false) (rw (to_z-of_z s) at c.if-s-lt0.false)
