-- Laws: where an integrator of a sound state can be: strictly between its levels before its due tick, and how far it can be up to that
-- tick. Assumes nothing.
use Rattle.std.specs.Prelude.{◌≡◌, ◌⊎◌, ℕ, ◌+◌, ◌-◌, ◌*◌, ◌^◌, ◌≤◌, ◌<◌, ℤ, ◌*ℤ◌, ◌<ℤ◌}
use Rattle.std.proofs.Common.{◌∙◌, inl, inr, arith, mul-le-mul_left, zero-mul}
use Rattle.std.proofs.Math.IntN.{pos}
use Rattle.integers.specs.Parts.{positive_part, ∣◌∣}
use Rattle.integers.proofs.Laws.Parts.{sum, prod, tight, zs}
use Rattle.plan.specs.Numbers.{M, never}
use Rattle.plan.specs.Lists.{nat_at, int_at}
use Rattle.plan.specs.Rules.{IntegratorRule}
use Rattle.plan.specs.declared.Plan.{Plan}
use Rattle.machine.specs.Values.{slope_most, slope_limit}
use Rattle.machine.specs.Due.{upper_level, lower_level, distance, ticks_to, due_tick, due_of}
use Rattle.machine.specs.Held.{held_of}
use Rattle.machine.specs.Instant.{position_at}
use Rattle.machine.specs.Runs.{position_of}
use Rattle.machine.proofs.Laws.SoundClauses.{SoundRunning}
use Rattle.machine.proofs.Laws.BetweenLevels.{BetweenLevels}
use Rattle.machine.proofs.Laws.Due.{due-still, due-moving, slope_cases, distance-positive, ticks-rounded, later-above, later-below}
use Rattle.machine.proofs.Laws.Held.{slope_most_lem}
use Rattle.machine.proofs.Laws.Levels.{inside_size, distance_most, ticks-most}
use Rattle.machine.specs.declared.Running.{Running}

-- up to the due tick, the move is less than one tick's move longer than the distance
move-most : (l t : ℕ) (x upper lower s : ℤ) → lower <ℤ x → x <ℤ upper → l ≤ t → t ≤ due_tick l x upper lower s
    → ∣ s ∣ * (t - l) < positive_part (distance x upper lower s) + ∣ s ∣
move-most l t x upper lower s above below since early =
    slope_cases s (∣ s ∣ * (t - l) < positive_part (distance x upper lower s) + ∣ s ∣)
    (λ e. rw e (omega (arith, zs, zero-mul (t - l), distance-positive x upper lower (pos 0) above below)))
    (λ m.
    let e = rw (due-moving l x upper lower s m) at early in let c = ticks-rounded x upper lower s above below m in
    let k : t - l ≤ ticks_to x upper lower s = omega arith in omega (arith, mul-le-mul_left ∣ s ∣ k))

module _ (p : Plan) (r : Running) (sound : SoundRunning p r) (i : ℕ) (used : i < p.counts.n) where
  pub inside : BetweenLevels p r.q i (int_at r.x i)
  inside = (sound.integrators i used).between

  pub due_is : nat_at r.d i ≡ due_tick (nat_at r.l i) (int_at r.x i) (upper_level p r.q i) (lower_level p r.q i) (int_at r.s i)
  unfolding due_of
  due_is = (sound.integrators i used).due

  rule : IntegratorRule p i
  rule = sound.plan.integrators i used

  output : ∣ int_at r.q i ∣ ≤ M
  output = sound.held.outputs i used

  pub moved_before : (t : ℕ) → r.clocks.clock ≤ t → nat_at r.l i ≤ t
  moved_before t since = omega (arith, (sound.integrators i used).moved)

  pub slope-size : ∣ int_at r.s i ∣ ≤ slope_most
  slope-size = rw (sound.integrators i used).slope (slope_most_lem p sound.plan r.clocks.clock (held_of r) sound.held i)

  -- before its due tick it stays strictly between its levels
  pub stays_inside : (t : ℕ) → r.clocks.clock ≤ t → t < nat_at r.d i → BetweenLevels p r.q i (position_at r t i)
  unfolding position_at
  stays_inside t since early =
      let before = rw due_is at early in
      record {
        above = later-above _ t _ _ _ _ inside.above inside.below (moved_before t since) before;
        below = later-below _ t _ _ _ _ inside.above inside.below (moved_before t since) before;
      }

  pub position-size : ∣ position_of r i ∣ < 2 ^ 31
  unfolding position_of
  position-size =
      inside_size p r.q i rule output (position_at r r.clocks.clock i)
      (stays_inside r.clocks.clock (omega arith) (sound.integrators i used).ahead)

  -- the due tick of one that moves
  due_soon : (int_at r.s i ≡ pos 0 → ⊥) → nat_at r.d i ≤ 2000000000 + (2 ^ 31 - 1)
  due_soon m = most (due_is ∙ due-moving _ _ _ _ _ m) (ticks-most p r.q i rule (int_at r.x i) inside (int_at r.s i))
    where
      most : {T : ℕ} → nat_at r.d i ≡ nat_at r.l i + T → T < 2 ^ 31 → nat_at r.d i ≤ 2000000000 + (2 ^ 31 - 1)
      most e h = omega (arith, (sound.integrators i used).moved, sound.clock, sound.plan.horizon)

  -- is a tick, below never
  pub due_tick_lem : (int_at r.s i ≡ pos 0 → ⊥) → nat_at r.d i < never
  due_tick_lem m = omega (arith, due_soon m)

  pub due-most : (nat_at r.d i ≡ never) ⊎ (nat_at r.d i ≤ 2000000000 + (2 ^ 31 - 1))
  due-most =
      slope_cases (int_at r.s i) ((nat_at r.d i ≡ never) ⊎ (nat_at r.d i ≤ 2000000000 + (2 ^ 31 - 1)))
      (λ e. inl (due_is ∙ due-still _ _ _ _ _ e))
      (λ m. inr (due_soon m))

  -- up to the due tick: the distance is below 2^31, and the last tick's move goes past the level by less than the slope's size
  move-size : (t : ℕ) → r.clocks.clock ≤ t → t ≤ nat_at r.d i → ∣ int_at r.s i *ℤ pos (t - nat_at r.l i) ∣ < 2 ^ 31 + slope_most
  move-size t since early =
      let x = int_at r.x i in let s = int_at r.s i in let d = distance x (upper_level p r.q i) (lower_level p r.q i) s in
      let e = rw due_is at early in
      let move = move-most _ t _ _ _ _ inside.above inside.below (moved_before t since) e in
      omega (arith, zs, prod s (pos (t - nat_at r.l i)), slope-size, distance_most p r.q i rule x inside s, tight d)

  pub elapsed-size : (t : ℕ) → r.clocks.clock ≤ t → t ≤ nat_at r.d i → ∣ int_at r.s i *ℤ pos (t - nat_at r.l i) ∣ < 2 ^ 32 + slope_limit
  elapsed-size t since early = omega (arith, move-size t since early)

  -- the value that it takes there
  pub value_at_due : ∣ position_at r (nat_at r.d i) i ∣ < 2 ^ 32 + slope_limit
  unfolding position_at
  value_at_due =
      let x = int_at r.x i in let d = nat_at r.d i in
      let move = move-size d (omega (arith, (sound.integrators i used).ahead)) (omega arith) in
      omega (arith, sum x (int_at r.s i *ℤ pos (d - nat_at r.l i)), inside_size p r.q i rule output x inside)
