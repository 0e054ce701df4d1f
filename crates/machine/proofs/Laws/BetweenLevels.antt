-- Laws: strictly between the levels: an integrator at its output is, and "|x−q| < D" says the same. Assumes nothing.
use Rattle.std.specs.Prelude.{◌≡◌, ◌↔◌, List, ℕ, ℤ, pos, ◌-ℤ◌, ◌<ℤ◌}
use Rattle.std.proofs.Common.{arith}
use Rattle.integers.specs.Parts.{∣◌∣}
use Rattle.integers.proofs.Laws.Parts.{sum, dif, tight, zs}
use Rattle.plan.specs.Lists.{int_at}
use Rattle.plan.specs.Rules.{IntegratorRule}
use Rattle.plan.specs.declared.Plan.{Plan}
use Rattle.machine.specs.Due.{upper_level, lower_level, due_of}

-- x lies strictly between integrator i's levels
pub record BetweenLevels (p : Plan) (q : List ℤ) (i : ℕ) (x : ℤ) : Type 0 where
  pub above : lower_level p q i <ℤ x
  pub below : x <ℤ upper_level p q i

module _ (p : Plan) (q : List ℤ) (i : ℕ) where
  pub between_itself : IntegratorRule p i → (x : ℤ) → int_at q i ≡ x → BetweenLevels p q i x
  unfolding upper_level lower_level
  between_itself rule x e =
      let y = int_at q i in let b = int_at p.integrators.quanta i in
      record { above = omega (arith, zs, dif y b, rule.least); below = omega (arith, zs, sum y b, rule.least) }

  -- the levels are by the output alone
  pub between_same : (q' : List ℤ) (x : ℤ) → int_at q' i ≡ int_at q i → BetweenLevels p q i x → BetweenLevels p q' i x
  unfolding upper_level lower_level
  between_same q' x e b = record { above = rw e b.above; below = rw e b.below }

  pub due_by_output : (q' : List ℤ) → int_at q' i ≡ int_at q i → (l : ℕ) (x s : ℤ) → due_of p q' i l x s ≡ due_of p q i l x s
  unfolding due_of upper_level lower_level
  due_by_output q' e l x s = rw e

  pub near_between : (x : ℤ) → (pos ∣ x -ℤ int_at q i ∣ <ℤ int_at p.integrators.quanta i) ↔ BetweenLevels p q i x
  unfolding upper_level lower_level
  near_between x =
      let y = int_at q i in let b = int_at p.integrators.quanta i in (
        λ h. record { above = omega (arith, zs, dif x y, dif y b); below = omega (arith, zs, dif x y, sum y b) },
        λ b'. omega (arith, zs, dif x y, dif y b, sum y b, tight (x -ℤ y), b'.above, b'.below),
      )
