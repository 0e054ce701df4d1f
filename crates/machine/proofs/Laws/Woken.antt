-- Laws: what the laws of an instant ask of who is woken, who gives its position as output, and where an instant puts an integrator. No
-- other law opens these three. Assumes nothing.
use Rattle.std.specs.Prelude.{◌≡◌, Bool, true, false, List, ℕ, ◌≤◌, ℤ}
use Rattle.std.proofs.Math.Path.{refl}
use Rattle.integers.specs.Parts.{∣◌∣}
use Rattle.plan.specs.Numbers.{M}
use Rattle.plan.specs.Lists.{nat_at}
use Rattle.plan.proofs.Laws.TestMeanings.{Means, eqb_means}
use Rattle.machine.specs.Reach.{is_due, woken, gives, placed, Woken}

-- ---- in words
pub woken_means : (d : List ℕ) (t i : ℕ) → Means (woken (is_due d t) i) (Woken d t i)
unfolding woken is_due
woken_means d t i = eqb_means (nat_at d i) t

pub gives_means : (d : List ℕ) (t i : ℕ) → Means (gives (is_due d t) i) (nat_at d i ≡ t)
unfolding gives is_due
gives_means d t i = eqb_means (nat_at d i) t

-- ---- by who is due, and by the position of an integrator
pub woken_is : (due : ℕ → Bool) (i : ℕ) → woken due i ≡ due i
unfolding woken
woken_is due i = refl

pub gives_is : (due : ℕ → Bool) (i : ℕ) → gives due i ≡ due i
unfolding gives
gives_is due i = refl

pub placed_is : (place : ℕ → ℤ) (i : ℕ) → placed place i ≡ place i
unfolding placed
placed_is place i = refl

-- ---- they look at integrator i alone
module _ (due due' : ℕ → Bool) (i : ℕ) (same : due i ≡ due' i) where
  pub woken_same : woken due i ≡ woken due' i
  unfolding woken
  woken_same = same

  pub gives_same : gives due i ≡ gives due' i
  unfolding gives
  gives_same = same

pub placed_same : (place place' : ℕ → ℤ) (i : ℕ) → place i ≡ place' i → placed place i ≡ placed place' i
unfolding placed
placed_same place place' i same = same

module _ (due : ℕ → Bool) (i : ℕ) where
  -- Who is not woken is not due, and is put at its position. Today everyone is (`placed_is`); this is what the laws of an instant ask.
  pub woken-due : woken due i ≡ false → due i ≡ false
  unfolding woken
  woken-due e = e

  pub placed_kept : (place : ℕ → ℤ) → woken due i ≡ false → placed place i ≡ place i
  unfolding placed
  placed_kept place e = refl

  -- who is woken is put within ±M, if those who give their position as output are there within ±M
  pub placed-size : (place : ℕ → ℤ) → woken due i ≡ true → (gives due i ≡ true → ∣ place i ∣ ≤ M) → ∣ placed place i ∣ ≤ M
  unfolding gives woken placed
  placed-size place e h = h e
