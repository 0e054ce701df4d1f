-- Laws: tests and the propositions that they mean: of numbers, their connectives, every index, the order of entries. Assumes nothing.
use Rattle.std.specs.Prelude.{◌≡◌, refl, Bool, true, false, not, ◌&&◌, ◌||◌, ◌↔◌, ◌⊎◌, List, ℕ, zero, suc, ◌-◌, ◌≤◌, ◌<◌, ℤ, pos, ◌-ℤ◌, leb, ltb, eqb}
use Rattle.std.proofs.Math.Bool.{not-eq-not}
use Rattle.std.proofs.lemmas.Bool.{false≢true}
use Rattle.std.proofs.Math.Logic.Iff
use Rattle.std.proofs.Common.{inl, inr, arith, leb-true, le-leb, ltb-true, lt-ltb, eqb-true, eq-eqb}
use Rattle.std.proofs.Math.Dec.{eqb-suc-zero}
use Rattle.integers.specs.Parts.{∣◌∣}
use Rattle.integers.proofs.Laws.Parts.{dif, tight, zs}
use Rattle.integers.proofs.Laws.Order.{le_z_true}
use Rattle.integers.specs.Range.{within}
use Rattle.integers.proofs.Laws.Range.{within_true}
use Rattle.plan.specs.Lists.{nat_at, every}
use Rattle.plan.specs.Tests.{pair_ascends}
use Rattle.plan.specs.Rules.{Within, AscendsAt}
use Rattle.plan.proofs.Laws.Searches.{every_true}

-- the test b means the proposition P
abbrev pub Means : Bool → Type 0 → Type 0
Means b P = (b ≡ true) ↔ P

-- where the proposition fails, so does the test
pub means_false : {b : Bool} {P : Type 0} → (b ≡ true → P) → (P → ⊥) → b ≡ false
means_false f h = (not-eq-not {b = false}).0 (λ e. h (f e))

-- ---- numbers
pub leb_means : (a b : ℕ) → Means (leb a b) (a ≤ b)
leb_means a b = (leb-true a b, le-leb a b)

pub ltb_means : (a b : ℕ) → Means (ltb a b) (a < b)
ltb_means a b = (ltb-true a b, lt-ltb a b)

pub eqb_means : (a b : ℕ) → Means (eqb a b) (a ≡ b)
eqb_means a b = (eqb-true a b, eq-eqb a b)

pub zero_means : (z : ℤ) → Means (eqb ∣ z ∣ 0) (z ≡ pos 0)
zero_means z = (λ e. let h = eqb-true ∣ z ∣ 0 e in omega (arith, zs), λ h. eq-eqb ∣ z ∣ 0 (omega (arith, zs, tight z)))

pub same_means : (x y : ℤ) → Means (eqb ∣ x -ℤ y ∣ 0) (x ≡ y)
same_means x y = Iff.trans (zero_means (x -ℤ y)) (λ e. omega (arith, zs, dif x y), λ e. omega (arith, zs, dif x y))

-- ---- connectives
pub both : {a b : Bool} {P Q : Type 0} → Means a P → Means b Q → Means (a && b) (P × Q)
both {a = true} f g = (λ e. (f.0 refl, g.0 e), λ h. g.1 h.1)
both {a = false} f g = (λ e. absurd (false≢true e), λ h. f.1 h.0)

pub negated : {a : Bool} {P : Type 0} → Means a P → Means (not a) (P → ⊥)
negated {a = true} f = (λ e h. false≢true e, λ h. absurd (h (f.0 refl)))
negated {a = false} f = (λ e h. false≢true (f.1 h), λ h. refl)

pub either : {a b : Bool} {P Q : Type 0} → Means a P → Means b Q → Means (a || b) (P ⊎ Q)
either {a = true} f g = (λ e. inl (f.0 refl), λ h. refl)
either {a = false} f g = (λ e. inr (g.0 e), λ h. elim h [ inl p ↦ absurd (false≢true (f.1 p)) | inr q ↦ g.1 q ])

pub every_means : {test : ℕ → Bool} {P : ℕ → Type 0} → ((i : ℕ) → Means (test i) (P i)) → (n : ℕ)
    → Means (every test n) ((i : ℕ) → i < n → P i)
every_means {test} f n =
    (λ e i h. (f i).0 ((every_true test n).0 e i h), λ h. (every_true test n).1 (λ i l. (f i).1 (h i l)))

pub within_means : (b : ℕ) (z : ℤ) → Means (within b z) (Within b z)
unfolding within
within_means b z = both (le_z_true _ z) (le_z_true z _)

-- within ±b by the size
pub within-size : (b : ℕ) (z : ℤ) → Within b z ↔ (∣ z ∣ ≤ b)
within-size b z = Iff.trans (Iff.symm (within_means b z)) (within_true b z)

-- ---- the order of entries: entry e stands above its predecessor, or has none
pub ascends_means : (xs ys : List ℕ) (e : ℕ)
    → Means (eqb e 0 || pair_ascends (nat_at xs (e - 1)) (nat_at ys (e - 1)) (nat_at xs e) (nat_at ys e)) (AscendsAt xs ys e)
unfolding pair_ascends
ascends_means xs ys zero = (λ t d q. absurd (omega arith), λ h. refl)
ascends_means xs ys (suc d) =
    let back : suc d - 1 ≡ d = omega arith in
    rw (eqb-suc-zero d, back) (λ t c q. let same : c ≡ d = omega arith in rw same (above.0 t), λ h. above.1 (h d refl))
  where
    above : Means (pair_ascends (nat_at xs d) (nat_at ys d) (nat_at xs (suc d)) (nat_at ys (suc d)))
        ((nat_at xs d < nat_at xs (suc d)) ⊎ ((nat_at xs d ≡ nat_at xs (suc d)) × (nat_at ys d < nat_at ys (suc d))))
    above = either (ltb_means _ _) (both (eqb_means _ _) (ltb_means _ _))
