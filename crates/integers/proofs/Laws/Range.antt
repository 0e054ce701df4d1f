-- Laws: an integer limited to lo..hi, and the test that an integer lies within ±b.
use Rattle.std.specs.Prelude.{ℤ, pos, neg_ℤ, ◌≤ℤ◌, ◌<ℤ◌, leb, Bool, true, false, ◌↔◌, ◌≡◌, refl, ℕ, ◌≤◌, ◌<◌}
use Rattle.std.specs.Int.Signed.{lt_z, le_z}
use Rattle.std.proofs.Common.{leb-true, leb-false, le-leb, sym, ◌∙◌, arith}
use Rattle.std.proofs.lemmas.Bool.{lt-leb}
use Rattle.integers.specs.Parts.{∣◌∣}
use Rattle.integers.proofs.Laws.Parts.{neg, tight, zs}
use Rattle.integers.specs.Range.{limited, within}

-- ---- limited to lo..hi

-- what holds in each of the three cases holds of the result
pub limited_cases : (lo hi z : ℤ) (P : ℤ → Type 0) → (z <ℤ lo → P lo) → (lo ≤ℤ z → hi <ℤ z → P hi) → (lo ≤ℤ z → z ≤ℤ hi → P z) →
    P (limited lo hi z)
unfolding limited
limited_cases lo hi z P f g h = go (lt_z z lo) (lt_z hi z) refl refl
  where
    go : (s t : Bool) → lt_z z lo ≡ s → lt_z hi z ≡ t → P (limited lo hi z)
    go true t e d = simp e (f (omega (arith, zs)))
    go false true e d = simp (e, d) (g (omega (arith, zs)) (omega (arith, zs)))
    go false false e d = simp (e, d) (h (omega (arith, zs)) (omega (arith, zs)))

pub limited_in : (lo hi z : ℤ) → lo ≤ℤ hi → (lo ≤ℤ limited lo hi z) × (limited lo hi z ≤ℤ hi)
limited_in lo hi z l =
    limited_cases lo hi z (λ r. (lo ≤ℤ r) × (r ≤ℤ hi)) (λ p. omega (arith, zs)) (λ p q. omega (arith, zs)) (λ p q. omega (arith, zs))

-- these three determine it, for lo ≤ hi
pub limited_same : (lo hi z : ℤ) → lo ≤ℤ z → z ≤ℤ hi → limited lo hi z ≡ z
limited_same lo hi z a b = limited_cases lo hi z (λ r. r ≡ z) (λ p. omega (arith, zs)) (λ p q. omega (arith, zs)) (λ p q. refl)

pub limited-low : (lo hi z : ℤ) → lo ≤ℤ hi → z ≤ℤ lo → limited lo hi z ≡ lo
limited-low lo hi z l a = limited_cases lo hi z (λ r. r ≡ lo) (λ p. refl) (λ p q. omega (arith, zs)) (λ p q. omega (arith, zs))

pub limited-high : (lo hi z : ℤ) → lo ≤ℤ hi → hi ≤ℤ z → limited lo hi z ≡ hi
limited-high lo hi z l a = limited_cases lo hi z (λ r. r ≡ hi) (λ p. omega (arith, zs)) (λ p q. refl) (λ p q. omega (arith, zs))

pub limited-size : (lo hi z : ℤ) (b : ℕ) → ∣ lo ∣ ≤ b → ∣ hi ∣ ≤ b → ∣ limited lo hi z ∣ ≤ b
limited-size lo hi z b h k = limited_cases lo hi z (λ r. ∣ r ∣ ≤ b) (λ p. h) (λ p q. k) (λ p q. omega (arith, zs, tight z))

-- ---- within ±b, both ends allowed

within-size : (b : ℕ) (z : ℤ) → within b z ≡ leb ∣ z ∣ b
unfolding within
within-size b z = go (le_z (neg_ℤ (pos b)) z) (le_z z (pos b)) refl refl
  where
    go : (s t : Bool) → le_z (neg_ℤ (pos b)) z ≡ s → le_z z (pos b) ≡ t → within b z ≡ leb ∣ z ∣ b
    go true true e d = simp (e, d) (sym (le-leb ∣ z ∣ b (omega (arith, zs, neg (pos b), tight z))))
    go true false e d = simp (e, d) (sym (lt-leb ∣ z ∣ b (omega (arith, zs))))
    go false t e d = simp e (sym (lt-leb ∣ z ∣ b (omega (arith, zs, neg (pos b)))))

pub within_true : (b : ℕ) (z : ℤ) → (within b z ≡ true) ↔ (∣ z ∣ ≤ b)
within_true b z = (λ e. leb-true ∣ z ∣ b (sym (within-size b z) ∙ e), λ h. within-size b z ∙ le-leb ∣ z ∣ b h)

pub within_false : (b : ℕ) (z : ℤ) → (within b z ≡ false) ↔ (b < ∣ z ∣)
within_false b z = (λ e. leb-false ∣ z ∣ b (sym (within-size b z) ∙ e), λ h. within-size b z ∙ lt-leb ∣ z ∣ b h)
