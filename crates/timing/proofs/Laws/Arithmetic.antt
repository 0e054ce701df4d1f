-- Laws: the arithmetic of positions, levels and due ticks step by step: what each step asks, and what the steps come to. Assumes nothing.
use Rattle.std.specs.Prelude.{◌≡◌, true, ℕ, ◌+◌, ◌-◌, ◌^◌, ◌≤◌, ◌<◌, max, ℤ, pos, ◌+ℤ◌, ◌-ℤ◌, ◌*ℤ◌, ◌≤ℤ◌, ◌<ℤ◌, T}
use Rattle.std.proofs.Math.Path.{sym}
use Rattle.std.proofs.Common.{◌∙◌, arith, SFits, Fits, to_z-of_z}
use Rattle.std.proofs.Math.Bool.{false}
use Rattle.std.proofs.Math.IntN.{nat_abs}
use Rattle.std.specs.Int.Signed.{lt_z, non_neg}
use Rattle.std.specs.Int.{w64}
use Rattle.integers.specs.Parts.{positive_part, ∣◌∣}
use Rattle.integers.proofs.Laws.Parts.{sum, dif, abs, tight, zs}
use Rattle.integers.specs.Division.{ceil_div}
use Rattle.integers.proofs.Laws.Division.{ceil_one, ceil_most}
use Rattle.integers.proofs.Laws.Signed64.{rd, rd_add, rd_sub, as_u64}
use Rattle.plan.specs.Numbers.{largest_horizon, never}
use Rattle.machine.specs.Values.{slope_limit}
use Rattle.machine.specs.Due.{distance, ticks_to, due_tick}
use Rattle.machine.proofs.Laws.Due.{due-still, due-moving}
use Rattle.timing.specs.Ticks.{LevelReady, DueReady, PositionReady}

-- ---- a position
module _ (x s : ℤ) (l t : ℕ) (ready : PositionReady x s l t) where
  pub move_fits : SFits w64 (s *ℤ pos (t - l))
  move_fits = omega (arith, zs, ready.move)

  pub position_fits : SFits w64 (x +ℤ s *ℤ pos (t - l))
  position_fits = omega (arith, zs, sum x (s *ℤ pos (t - l)), ready.small, ready.move)

-- ---- a level, as the code makes it of two locals
module _ {q quantum : ℤ} (ready : LevelReady q quantum) where
  upper_fits : SFits w64 (q +ℤ quantum)
  upper_fits = omega (arith, zs, sum q quantum)

  lower_fits : SFits w64 (q -ℤ quantum)
  lower_fits = omega (arith, zs, dif q quantum)

  module _ (fq : SFits w64 q) (fd : SFits w64 quantum) where
    pub upper_made : SFits w64 (rd q +ℤ rd quantum)
    upper_made = rw (rd_add fq fd) upper_fits

    pub lower_made : SFits w64 (rd q -ℤ rd quantum)
    lower_made = rw (rd_sub fq fd) lower_fits

    pub upper-read : rd (rd q +ℤ rd quantum) ≡ q +ℤ quantum
    upper-read = to_z-of_z upper_made ∙ rd_add fq fd

    pub lower-read : rd (rd q -ℤ rd quantum) ≡ q -ℤ quantum
    lower-read = to_z-of_z lower_made ∙ rd_sub fq fd

-- ---- the due tick
-- distance and speed of a slope that is not 0: a tick up to the largest horizon, a distance below 2^31, a speed below the limit of slopes
pub record TicksReady (from : ℕ) (distance speed : ℤ) : Type 0 where
  pub early : from ≤ largest_horizon
  pub ahead : pos 1 ≤ℤ distance
  pub near : distance <ℤ pos (2 ^ 31)
  pub moving : pos 1 ≤ℤ speed
  pub slow : speed <ℤ pos slope_limit

-- a distance of at least 1 gives a quotient of at least 1, so "T ≥ 1" asks no more
quotient_least : (d k : ℕ) → 1 ≤ d → 0 < k → max 1 (ceil_div d k) ≡ ceil_div d k
quotient_least d k h l = omega (arith, ceil_one d k l h)

module _ (from : ℕ) (distance speed : ℤ) (ready : TicksReady from distance speed) where
  -- both are above 0, so a cast keeps them
  pub distance_cast : T (non_neg distance) × Fits w64 (nat_abs distance)
  distance_cast = as_u64 distance (omega (arith, zs, tight distance)) (omega (arith, zs, tight distance))

  pub speed_cast : T (non_neg speed) × Fits w64 (nat_abs speed)
  speed_cast = as_u64 speed (omega (arith, zs, tight speed)) (omega (arith, zs, tight speed))

  pub distance-positive : 0 < nat_abs distance
  distance-positive = omega (arith, zs, abs distance)

  pub speed_positive : 0 < nat_abs speed
  speed_positive = omega (arith, zs, abs speed)

  distance_same : nat_abs distance ≡ positive_part distance
  distance_same = omega (arith, zs, abs distance, tight distance)

  -- at most one tick for each unit of the distance: below never
  pub tick-most : {ticks : ℕ} → ticks ≡ ceil_div (nat_abs distance) (nat_abs speed) → from + ticks < 2 ^ 32 - 1
  tick-most e = omega (arith, zs, ready.early, ready.near, distance_same, ceil_most (nat_abs distance) (nat_abs speed) speed_positive, tight distance)

  quotient_is : max 1 (ceil_div (positive_part distance) (nat_abs speed)) ≡ ceil_div (nat_abs distance) (nat_abs speed)
  quotient_is = rw distance_same (quotient_least (positive_part distance) (nat_abs speed) (omega (arith, zs, tight distance)) speed_positive)

module _ (from : ℕ) (x upper lower s : ℤ) (ready : DueReady from x upper lower s) where
  pub rise_fits : SFits w64 (upper -ℤ x)
  rise_fits = omega (arith, zs, dif upper lower, dif upper x, tight (upper -ℤ x))

  pub fall_fits : SFits w64 (x -ℤ lower)
  fall_fits = omega (arith, zs, dif upper lower, dif x lower, tight (x -ℤ lower))

  pub speed_fits : SFits w64 (pos 0 -ℤ s)
  speed_fits = omega (arith, zs, dif (pos 0) s)

  pub rise_ready : lt_z (pos 0) s ≡ true → TicksReady from (upper -ℤ x) s
  rise_ready e = omega (arith, zs, dif upper lower, dif upper x)

  pub fall_ready : lt_z s (pos 0) ≡ true → TicksReady from (x -ℤ lower) (pos 0 -ℤ s)
  fall_ready e = omega (arith, zs, dif upper lower, dif x lower, dif (pos 0) s)

  pub due_rise : lt_z (pos 0) s ≡ true → {ticks : ℕ} → ticks ≡ ceil_div (nat_abs (upper -ℤ x)) (nat_abs s) → from + ticks ≡ due_tick from x upper lower s
  unfolding distance ticks_to
  due_rise e quotient =
      let size : ∣ s ∣ ≡ nat_abs s = omega (arith, zs, abs s) in
      sym (due-moving from x upper lower s (λ z. omega (arith, zs)) ∙ rw (e, size, quotient_is from (upper -ℤ x) s (rise_ready e), quotient))

  pub due_fall : lt_z s (pos 0) ≡ true → {ticks : ℕ} → ticks ≡ ceil_div (nat_abs (x -ℤ lower)) (nat_abs (pos 0 -ℤ s))
      → from + ticks ≡ due_tick from x upper lower s
  unfolding distance ticks_to
  due_fall e quotient =
      let size : ∣ s ∣ ≡ nat_abs (pos 0 -ℤ s) = omega (arith, zs, abs (pos 0 -ℤ s), dif (pos 0) s, tight s) in
      let falls : lt_z (pos 0) s ≡ false = omega (arith, zs) in
      sym (due-moving from x upper lower s (λ z. omega (arith, zs))
      ∙ rw (falls, size, quotient_is from (x -ℤ lower) (pos 0 -ℤ s) (fall_ready e), quotient))

  pub due-never : lt_z (pos 0) s ≡ false → lt_z s (pos 0) ≡ false → never ≡ due_tick from x upper lower s
  due-never e f = sym (due-still from x upper lower s (omega (arith, zs)))
