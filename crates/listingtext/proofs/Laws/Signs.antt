-- Laws: the two cases of a signed number, by the test of the code. Assumes nothing.
use Rattle.std.specs.Prelude.{◌≡◌, false, ◌∷◌, ℕ, suc, ◌+◌, ◌-◌, ℤ, pos, negsuc, nat_abs, ◌-ℤ◌}
use Rattle.std.proofs.Math.Path.{refl, ap}
use Rattle.std.proofs.Math.Bool.{true}
use Rattle.std.proofs.Common.{arith}
use Rattle.std.specs.Int.Signed.{mag, lt_z}
use borrow.Author.Tests.{ltb-true, le-ltb}
use Rattle.listingtext.specs.Decimal.{minus, decimal, signed_decimal}

-- below 0, where the size is one more than -1 - z
module _ (z : ℤ) (e : lt_z z (pos 0) ≡ true) where
  pub below_zero : negsuc 0 -ℤ z ≡ pos (mag z)
  below_zero = go z e
    where
      go : (z : ℤ) → lt_z z (pos 0) ≡ true → negsuc 0 -ℤ z ≡ pos (mag z)
      go (pos n) t = let k = ltb-true n 0 t in absurd (omega arith)
      go (negsuc n) t = let e : suc n - 1 ≡ n = omega arith in simp (le-ltb (suc n) 1 (omega arith)) (ap pos e)

  pub size_below : nat_abs z ≡ mag z + 1
  size_below = go z e
    where
      go : (z : ℤ) → lt_z z (pos 0) ≡ true → nat_abs z ≡ mag z + 1
      go (pos n) t = let k = ltb-true n 0 t in absurd (omega arith)
      go (negsuc n) t = omega arith

  pub signed_below : signed_decimal z ≡ minus ∷ decimal (nat_abs z)
  unfolding signed_decimal
  signed_below = go z e
    where
      go : (z : ℤ) → lt_z z (pos 0) ≡ true → signed_decimal z ≡ minus ∷ decimal (nat_abs z)
      go (pos n) t = let k = ltb-true n 0 t in absurd (omega arith)
      go (negsuc n) t = refl

-- from 0 on
module _ (z : ℤ) (e : lt_z z (pos 0) ≡ false) where
  pub from_zero : z ≡ pos (nat_abs z)
  from_zero = go z e
    where
      go : (z : ℤ) → lt_z z (pos 0) ≡ false → z ≡ pos (nat_abs z)
      go (pos n) t = refl
      go (negsuc n) t = let o : ◌≡◌ {A = ℕ} 0 1 = cc in absurd (omega arith)

  pub signed_from : signed_decimal z ≡ decimal (nat_abs z)
  unfolding signed_decimal
  signed_from = ap signed_decimal from_zero
