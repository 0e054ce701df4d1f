-- Laws: how far apart integrator i's levels are; with x strictly between them how large the distance to the level ahead is and the ticks to
-- it; and with its output within ±M how large the levels and x are. Assumes nothing.
use Rattle.std.specs.Prelude.{◌≡◌, Bool, true, false, cond, List, ℕ, ◌*◌, ◌^◌, ◌≤◌, ◌<◌, max, pos, ◌+ℤ◌, ◌-ℤ◌, ◌≤ℤ◌, ◌<ℤ◌}
use Rattle.std.proofs.Common.{ap, arith}
use Rattle.std.proofs.Math.Nat.{div-zero}
use Rattle.std.proofs.Math.IntN.{ℤ}
use Rattle.std.specs.Int.Signed.{lt_z}
use Rattle.integers.specs.Parts.{positive_part, ∣◌∣}
use Rattle.integers.proofs.Laws.Parts.{sum, dif, tight, zs}
use Rattle.integers.specs.Division.{ceil_div}
use Rattle.integers.proofs.Laws.Division.{ceil_most}
use Rattle.plan.specs.Numbers.{M}
use Rattle.plan.specs.Lists.{int_at}
use Rattle.plan.specs.Rules.{IntegratorRule}
use Rattle.plan.specs.declared.Plan.{Plan}
use Rattle.machine.specs.Due.{upper_level, lower_level, distance, ticks_to}
use Rattle.machine.proofs.Laws.BetweenLevels.{BetweenLevels}
use Rattle.machine.proofs.Laws.Due.{moving, slope_cases, distance-positive}

pub ticks-positive : (x upper lower s : ℤ) → 1 ≤ ticks_to x upper lower s
unfolding ticks_to
ticks-positive x upper lower s = omega arith

-- the library's quotient by 0 is 0
ceil_by_zero : (a : ℕ) → ceil_div a 0 ≡ 0
unfolding ceil_div
ceil_by_zero a = div-zero _

ticks_by_distance : (x upper lower s : ℤ) → pos 1 ≤ℤ distance x upper lower s → ticks_to x upper lower s ≤ positive_part (distance x upper lower s)
unfolding ticks_to
ticks_by_distance x upper lower s h =
    let d = positive_part (distance x upper lower s) in
    slope_cases s (max 1 (ceil_div d ∣ s ∣) ≤ d)
    (λ e. rw (ap (λ z. ∣ z ∣) e) (omega (arith, zs, ceil_by_zero d)))
    (λ m. omega (arith, zs, ceil_most d ∣ s ∣ (moving s m)))

pub distance_least : (p : Plan) (q : List ℤ) (i : ℕ) (x : ℤ) → BetweenLevels p q i x → (s : ℤ)
    → pos 1 ≤ℤ distance x (upper_level p q i) (lower_level p q i) s
distance_least p q i x inside s =
    omega (arith, zs, distance-positive x (upper_level p q i) (lower_level p q i) s inside.above inside.below)

module _ (p : Plan) (q : List ℤ) (i : ℕ) (rule : IntegratorRule p i) where
  -- from level to level, whatever the output
  pub levels-apart : (upper_level p q i -ℤ lower_level p q i) ≤ℤ pos (2 * M)
  unfolding upper_level lower_level
  levels-apart =
      let a = int_at q i in let b = int_at p.integrators.quanta i in
      omega (arith, zs, sum a b, dif a b, dif (a +ℤ b) (a -ℤ b), rule.most, tight b)

  module _ (x : ℤ) (inside : BetweenLevels p q i x) (s : ℤ) where
    pub distance_most : distance x (upper_level p q i) (lower_level p q i) s <ℤ pos (2 ^ 31)
    unfolding distance
    distance_most = go (lt_z (pos 0) s)
      where
        u : ℤ
        u = upper_level p q i

        l : ℤ
        l = lower_level p q i

        go : (b : Bool) → cond b (u -ℤ x) (x -ℤ l) <ℤ pos (2 ^ 31)
        go true = omega (arith, zs, levels-apart, dif u l, dif u x)
        go false = omega (arith, zs, levels-apart, dif u l, dif x l)

    pub ticks-most : ticks_to x (upper_level p q i) (lower_level p q i) s < 2 ^ 31
    ticks-most =
        let u = upper_level p q i in let l = lower_level p q i in
        omega (arith, zs, ticks_by_distance x u l s (distance_least p q i x inside s), distance_most, tight (distance x u l s))

  -- with the output within ±M
  module _ (output : ∣ int_at q i ∣ ≤ M) where
    pub upper-size : ∣ upper_level p q i ∣ ≤ 2 ^ 31
    unfolding upper_level
    upper-size = let a = int_at q i in let b = int_at p.integrators.quanta i in omega (arith, zs, sum a b, tight b)

    pub lower-size : ∣ lower_level p q i ∣ ≤ 2 ^ 31
    unfolding lower_level
    lower-size = let a = int_at q i in let b = int_at p.integrators.quanta i in omega (arith, zs, dif a b, tight b)

    pub inside_size : (x : ℤ) → BetweenLevels p q i x → ∣ x ∣ < 2 ^ 31
    inside_size x inside = omega (arith, zs, upper-size, lower-size, inside.above, inside.below, tight x)
