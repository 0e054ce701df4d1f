-- Laws: what a comparison in the code says, as the value of the test that a definition makes. A signed local z is seen as `rd z`, the
-- number read back from its bits, which is z since z fits. Assumes nothing.
use Rattle.std.specs.Prelude.{ℤ, pos, negsuc, neg_ℤ, eqb, Bool, true, false, not, ◌≡◌, ℕ, suc, ◌+◌}
use Rattle.std.specs.Int.Signed.{lt_z, le_z}
use Rattle.std.proofs.Common.{ne_eqb, sym, ap, ◌∙◌, add-zero, arith, SFits, of_z, to_z-of_z}
use Rattle.std.proofs.Math.Bool.{not-not}
use Rattle.std.specs.Int.{w64}
use Rattle.integers.specs.Parts.{∣◌∣}
use Rattle.integers.proofs.Laws.Parts.{zs}
use Rattle.integers.specs.Range.{within}
use Rattle.integers.proofs.Laws.Signed64.{rd}
use Rattle.plan.specs.Numbers.{M}

-- ---- z < y was found, or was not
pub less : (y z : ℤ) → SFits w64 z → lt_z (rd z) y ≡ true → le_z y z ≡ false
less y z f e = omega (arith, zs, rw (to_z-of_z f) at e)

pub not_less : (y z : ℤ) → SFits w64 z → lt_z (rd z) y ≡ false → le_z y z ≡ true
not_less y z f e = omega (arith, zs, rw (to_z-of_z f) at e)

-- below -b nothing is within ±b; from there on the upper end decides
pub within-less : (b : ℕ) (z : ℤ) → SFits w64 z → lt_z (rd z) (neg_ℤ (pos b)) ≡ true → within b z ≡ false
unfolding within
within-less b z f e = rw (less (neg_ℤ (pos b)) z f e)

pub within_not_less : (b : ℕ) (z : ℤ) → SFits w64 z → lt_z (rd z) (neg_ℤ (pos b)) ≡ false → within b z ≡ le_z z (pos b)
unfolding within
within_not_less b z f e = rw (not_less (neg_ℤ (pos b)) z f e)

-- `==` on signed numbers compares their bits
pub zero_bits : (z : ℤ) → SFits w64 z → eqb ∣ z ∣ 0 ≡ eqb (of_z w64 z) 0
zero_bits (pos n) f = rw add-zero
zero_bits (negsuc n) f =
    ne_eqb (0 + suc n) 0 (λ e. omega arith) ∙ sym (ne_eqb (of_z w64 (negsuc n)) 0 (λ e. omega (arith, f.sfits)))

-- ---- `value_within_m` was called with z and answered r
pub answered : {z : ℤ} {r : Bool} → SFits w64 z → r ≡ within M (rd z) → r ≡ within M z
answered f e = e ∙ ap (within M) (to_z-of_z f)

-- and r, or `!r`, was tested
pub within_by_answer : {z : ℤ} {r t : Bool} → SFits w64 z → r ≡ within M (rd z) → r ≡ t → within M z ≡ t
within_by_answer f e t = sym (answered f e) ∙ t

pub tested : {z : ℤ} {r t : Bool} → SFits w64 z → r ≡ within M (rd z) → not r ≡ t → within M z ≡ not t
tested {r = r} f e t = sym (answered f e) ∙ sym (not-not r) ∙ ap not t
