-- Laws: two's complement, for every width of w bytes, or for every width from 1 on.
use Prim.Native.Nat.{ℕ, zero, suc, ◌+◌, ◌-◌, ◌*◌, ◌^◌, ◌≤◌, ◌<◌}
use Rattle.std.proofs.Common.{pow-suc, ap, ◌∙◌, pow-add}
use native.Mathlib.Omega.{arith}
use Rattle.std.specs.Prelude.{◌≡◌, Bool, cond, ltb, ℤ, pos, ◌+ℤ◌}
use Rattle.std.proofs.Math.Path.{refl}
use Rattle.std.proofs.Math.Bool.{true, false}
use Rattle.std.proofs.Math.IntN.{negsuc, sub_ℕ}
use Rattle.std.specs.Int.Signed.{mag, lt_z}
use borrow.Author.Tests.{lt-ltb, le-ltb, ltb-true, ltb-false}
use Rattle.words.specs.Word.{signed_of, unsigned_of}

-- w bytes are 8 w bits
pub byte_bits : (w : ℕ) → 256 ^ w ≡ 2 ^ (8 * w)
byte_bits zero = refl
byte_bits (suc w) = let e : 8 * suc w ≡ 8 * w + 8 = omega arith in rw (pow-suc, byte_bits w, e, pow-add)

-- twice the highest bit
pub twice_half : (w : ℕ) → 0 < w → 2 ^ (8 * w) ≡ 2 * 2 ^ (8 * w - 1)
twice_half w h = let e : 8 * w ≡ suc (8 * w - 1) = omega arith in ap (λ (n : ℕ). 2 ^ n) e ∙ rw pow-suc (omega arith)

-- ---- the two cases of each definition
pub signed_high : (w v : ℕ) → 2 ^ (8 * w - 1) ≤ v → signed_of w v ≡ sub_ℕ v (2 ^ (8 * w))
unfolding signed_of
signed_high w v h = ap (λ (b : Bool). cond b (pos v) (sub_ℕ v (2 ^ (8 * w)))) (le-ltb v (2 ^ (8 * w - 1)) h)

pub signed_low : (w v : ℕ) → v < 2 ^ (8 * w - 1) → signed_of w v ≡ pos v
unfolding signed_of
signed_low w v h = ap (λ (b : Bool). cond b (pos v) (sub_ℕ v (2 ^ (8 * w)))) (lt-ltb v (2 ^ (8 * w - 1)) h)

pub unsigned_high : (w : ℕ) (z : ℤ) → lt_z z (pos 0) ≡ true → mag z < 2 ^ (8 * w) → pos (unsigned_of w z) ≡ z +ℤ pos (2 ^ (8 * w))
unfolding unsigned_of
unsigned_high w (pos n) t h = let k = ltb-true n 0 t in absurd (omega arith)
unsigned_high w (negsuc n) t h = simp (le-ltb (2 ^ (8 * w)) (suc n) h)

pub unsigned_low : (w : ℕ) (z : ℤ) → lt_z z (pos 0) ≡ false → pos (unsigned_of w z) ≡ z
unfolding unsigned_of
unsigned_low w (pos n) t = refl
unsigned_low w (negsuc n) t = let o : ◌≡◌ {A = ℕ} 0 1 = cc in absurd (omega arith)

-- ---- there and back
pub unsigned_signed : (w v : ℕ) → v < 2 ^ (8 * w) → unsigned_of w (signed_of w v) ≡ v
unfolding signed_of unsigned_of
unsigned_signed w v h = simp (lt-ltb v (2 ^ (8 * w)) h) (go (ltb v (2 ^ (8 * w - 1))))
  where
    go : (b : Bool) → unsigned_of w (cond b (pos v) (negsuc (2 ^ (8 * w) - suc v))) ≡ v
    go true = refl
    go false = omega arith

module _ (w : ℕ) (wide : 0 < w) where
  pub signed_unsigned : (z : ℤ) → mag z < 2 ^ (8 * w - 1) → signed_of w (unsigned_of w z) ≡ z
  unfolding signed_of unsigned_of
  signed_unsigned (pos n) h = simp (lt-ltb n (2 ^ (8 * w - 1)) h)
  signed_unsigned (negsuc n) h =
      let t = twice_half w wide in
      let v = 2 ^ (8 * w) - suc n in
      simp (le-ltb v (2 ^ (8 * w - 1)) (omega arith), lt-ltb v (2 ^ (8 * w)) (omega arith)) (ap negsuc (omega arith))

  -- ---- ranges
  pub signed_mag : (v : ℕ) → v < 2 ^ (8 * w) → mag (signed_of w v) < 2 ^ (8 * w - 1)
  unfolding signed_of
  signed_mag v h =
      simp (lt-ltb v (2 ^ (8 * w)) h)
      (go (ltb v (2 ^ (8 * w - 1))) (ltb-true v (2 ^ (8 * w - 1))) (ltb-false v (2 ^ (8 * w - 1))))
    where
      go : (b : Bool) → (b ≡ true → v < 2 ^ (8 * w - 1)) → (b ≡ false → 2 ^ (8 * w - 1) ≤ v)
          → mag (cond b (pos v) (negsuc (2 ^ (8 * w) - suc v))) < 2 ^ (8 * w - 1)
      go true p q = p refl
      go false p q = let k = q refl in let t = twice_half w wide in omega arith

  pub unsigned_lt : (z : ℤ) → mag z < 2 ^ (8 * w - 1) → unsigned_of w z < 2 ^ (8 * w)
  unfolding unsigned_of
  unsigned_lt (pos n) h = let t = twice_half w wide in omega arith
  unsigned_lt (negsuc n) h = let t = twice_half w wide in omega arith
