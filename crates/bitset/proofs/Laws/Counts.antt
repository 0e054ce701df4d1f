-- Laws: counts. `count_ones` of a mask is how many are in it. Assumes nothing.
use Rattle.std.specs.Prelude.{◌≡◌, refl, Bool, true, false, cond, ℕ, zero, suc, ◌+◌, ◌^◌, ◌≤◌, ◌<◌}
use Rattle.std.proofs.Common.{sym, ap, ◌∙◌, one-mul, lt_of_lt_of_le, arith, pow_mono}
use Rattle.std.proofs.lemmas.Bool.{false≢true}
use Rattle.std.specs.Int.Count.{ones}
use Rattle.std.proofs.lemmas.Nat.{ones_cat, ones-le}
use Rattle.bitset.specs.Mask.{has, mask_of}
use Rattle.bitset.specs.Counts.{count_of}
use Rattle.bitset.proofs.Laws.Bits.{mask_of_lt, mask_of-has, mask_of_ext}

pub ones_mask_of : (p : ℕ → Bool) (n : ℕ) → ones (mask_of p n) ≡ count_of p n
unfolding mask_of count_of ones
ones_mask_of p zero = refl
ones_mask_of p (suc n) = go (p n) (mask_of_lt p n) (ones_mask_of p n)
  where
    go : (b : Bool) {r c : ℕ} → r < 2 ^ n → ones r ≡ c → ones (cond b (2 ^ n + r) r) ≡ cond b (suc c) c
    go true {r} h e = omega (arith, rw one-mul at (ones_cat n 1 r h))
    go false h e = e

-- `count_ones` counts the bits that are set
pub ones_count : (m n : ℕ) → m < 2 ^ n → ones m ≡ count_of (has m) n
ones_count m n h = ap ones (sym (mask_of-has m n h)) ∙ ones_mask_of (has m) n

pub count_of_ext : (p q : ℕ → Bool) (n : ℕ) → ((i : ℕ) → i < n → p i ≡ q i) → count_of p n ≡ count_of q n
count_of_ext p q n e = sym (ones_mask_of p n) ∙ ap ones (mask_of_ext p q n e) ∙ ones_mask_of q n

-- the bits of a mask that a test made, counted at any width that holds it
pub count_of_mask : (p : ℕ → Bool) (n w : ℕ) → n ≤ w → count_of (has (mask_of p n)) w ≡ count_of p n
count_of_mask p n w l = sym (ones_count (mask_of p n) w (lt_of_lt_of_le (mask_of_lt p n) (pow_mono l))) ∙ ones_mask_of p n

pub count_of-all : (n : ℕ) → count_of (λ _. true) n ≡ n
unfolding count_of
count_of-all zero = refl
count_of-all (suc n) = ap suc (count_of-all n)

-- where all with p have q, no more have p than have q
pub count_of_mono : (p q : ℕ → Bool) (n : ℕ) → ((i : ℕ) → i < n → p i ≡ true → q i ≡ true) → count_of p n ≤ count_of q n
unfolding count_of
count_of_mono p q zero e = omega arith
count_of_mono p q (suc n) e = go (p n) (q n) (e n (omega arith)) (count_of_mono p q n (λ i l. e i (omega arith)))
  where
    go : (b d : Bool) → (b ≡ true → d ≡ true) → {x y : ℕ} → x ≤ y → cond b (suc x) x ≤ cond d (suc y) y
    go true true k h = omega arith
    go true false k h = absurd (false≢true (k refl))
    go false true k h = omega arith
    go false false k h = h

pub count_of_le : (p : ℕ → Bool) (n : ℕ) → count_of p n ≤ n
count_of_le p n = rw (← ones_mask_of p n) (ones-le n (mask_of p n) (mask_of_lt p n))
