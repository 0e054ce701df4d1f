-- Laws: a mask by all its bits, the low part of a mask, and two masks joined. Assumes nothing.
use Rattle.std.specs.Prelude.{◌≡◌, refl, Bool, true, false, cond, ℕ, zero, suc, ◌+◌, ◌-◌, ◌/◌, ◌%◌, ◌^◌, ◌≤◌, ◌<◌, ltb}
use Rattle.std.proofs.Common.{sym, ap, ◌∙◌, div-add-mod', pow-suc, arith, ltb-true, ltb-false}
use Rattle.bitset.specs.Mask.{has, mask_of, union_shifted}
use Rattle.bitset.proofs.Laws.Bits.{has-high, has_shifted_low, has_shifted_high, mask_ext, mask_below, mask_of_lt, has-mask_of}

below_power : (m : ℕ) → m < 2 ^ m
below_power zero = omega arith
below_power (suc m) = rw pow-suc (omega (arith, below_power m))

-- the i below n with p i, and no others
pub mask_is : (m n : ℕ) (p : ℕ → Bool) → ((i : ℕ) → i < n → has m i ≡ p i) → ((i : ℕ) → n ≤ i → has m i ≡ false) → m ≡ mask_of p n
mask_is m n p below above =
    mask_ext n m (mask_of p n) (mask_below n m m (below_power m) above) (mask_of_lt p n) (λ i h. below i h ∙ sym (has-mask_of p n i h))

-- what `m % 2 ^ w` keeps
pub has-low : (m w i : ℕ) → i < w → has (m % 2 ^ w) i ≡ has m i
unfolding union_shifted
has-low m w i h = sym (has_shifted_low (m % 2 ^ w) (m / 2 ^ w) w i h) ∙ ap (λ x. has x i) (div-add-mod' m (2 ^ w))

pub joined_is : (p q : ℕ → Bool) (n m : ℕ)
    → union_shifted (mask_of p n) (mask_of q m) n ≡ mask_of (λ i. cond (ltb i n) (p i) (q (i - n))) (n + m)
joined_is p q n m = mask_is (union_shifted (mask_of p n) (mask_of q m) n) (n + m) _ (λ i h. go i h (ltb i n) refl) above
  where
    high : (i : ℕ) → n ≤ i → has (union_shifted (mask_of p n) (mask_of q m) n) i ≡ has (mask_of q m) (i - n)
    high i h = has_shifted_high (mask_of p n) (mask_of q m) n i (mask_of_lt p n) h

    go : (i : ℕ) → i < n + m → (b : Bool) → ltb i n ≡ b → has (union_shifted (mask_of p n) (mask_of q m) n) i ≡ cond b (p i) (q (i - n))
    go i h true e = let l = ltb-true i n e in has_shifted_low (mask_of p n) (mask_of q m) n i l ∙ has-mask_of p n i l
    go i h false e = let l = ltb-false i n e in high i l ∙ has-mask_of q m (i - n) (omega arith)

    above : (i : ℕ) → n + m ≤ i → has (union_shifted (mask_of p n) (mask_of q m) n) i ≡ false
    above i h = high i (omega arith) ∙ has-high (mask_of q m) m (i - n) (mask_of_lt q m) (omega arith)
