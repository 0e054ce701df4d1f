-- Laws: no bit, one bit, `|`, `&`, an added bit, shifts, two masks as one, and the mask that a test makes, bit by bit. Two masks of one
-- width with the same bits are equal. Assumes nothing.
use Rattle.std.specs.Prelude.{◌≡◌, refl, Bool, true, false, cond, ◌&&◌, ◌||◌, ◌⊎◌, ℕ, zero, suc, ◌+◌, ◌-◌, ◌*◌, ◌/◌, ◌%◌, ◌^◌, ◌≤◌, ◌<◌, ltb, eqb}
use Rattle.std.proofs.Common.{sym, ap, ◌∙◌, true≢false, inl, inr, ⊎_elim, mod-lt, div-one, one-mul, pow-suc, eq-or-lt_of_le, le_of_suc-le-suc, not-suc-le-zero, lt_of_lt_of_le, add-one, one-add, arith, pow_pos, pow_mono, shl_exact, shr-shr, shr_lt, ltb-true, ltb-false, eq-eqb, ne_eqb}
use Rattle.std.proofs.Math.Bool.{or-true, or-false}
use Rattle.std.proofs.lemmas.Bool.{false≢true}
use Rattle.std.proofs.Math.Nat.{zero-div, div-eq_of_lt}
use Rattle.std.proofs.Math.Dec.{eqb-zero-suc, eqb-suc-zero, eqb-suc-suc}
use Rattle.std.proofs.Math.Arith.{lt-one}
use Rattle.std.proofs.Math.Pow.{pow-lt, high}
use Rattle.std.specs.Int.Bits.{bit_and, bit_or, or_shifted_r, block_half, block_odd}
use Rattle.std.proofs.lemmas.Nat.{or_shr, or_mod, or_lt, and_shr, and_mod}
use Rattle.bitset.specs.Mask.{has, mask_of, all_of, union, with_bit, union_shifted}

-- the lowest digit is 0 or 1
pub parity : (m : ℕ) → (m % 2 ≡ 0) ⊎ (m % 2 ≡ 1)
parity m = go (m % 2) (mod-lt m (omega arith))
  where
    go : (x : ℕ) → x < 2 → (x ≡ 0) ⊎ (x ≡ 1)
    go zero h = inl refl
    go (suc zero) h = inr refl
    go (suc (suc x)) h = absurd (omega arith)

-- ---- bit by bit

pub has-none : (i : ℕ) → has 0 i ≡ false
unfolding has
has-none i = rw zero-div

-- bit 0, and the bits above it
pub has_zero : (m : ℕ) → has m 0 ≡ eqb (m % 2) 1
unfolding has
has_zero m = rw div-one

pub has_suc : (m i : ℕ) → has m (suc i) ≡ has (m / 2) i
unfolding has
has_suc m i = ap (λ (x : ℕ). eqb (m / 2 ^ x % 2) 1) (sym (one-add i)) ∙ ap (λ (x : ℕ). eqb (x % 2) 1) (sym (shr-shr m 1 i))

-- what `m >> k` keeps
pub has_shr : (m k i : ℕ) → has (m / 2 ^ k) i ≡ has m (k + i)
unfolding has
has_shr m k i = rw shr-shr

-- a mask of k bits has none from k on
pub has-high : (m k i : ℕ) → m < 2 ^ k → k ≤ i → has m i ≡ false
unfolding has
has-high m k i h l = ap (λ (x : ℕ). eqb (x % 2) 1) (div-eq_of_lt (lt_of_lt_of_le h (pow_mono l)))

pub has_one : (k i : ℕ) → has (2 ^ k) i ≡ eqb i k
has_one zero zero = has_zero 1
has_one zero (suc i) = has_suc 1 i ∙ has-none i ∙ sym (eqb-suc-zero i)
has_one (suc k) zero =
    let low : 2 ^ suc k % 2 ≡ 0 = rw pow-suc (omega arith) in has_zero (2 ^ suc k) ∙ rw low (sym (eqb-zero-suc k))
has_one (suc k) (suc i) =
    let half : 2 ^ suc k / 2 ≡ 2 ^ k = rw pow-suc (omega arith) in has_suc (2 ^ suc k) i ∙ rw half (has_one k i ∙ sym (eqb-suc-suc i k))

-- ---- `|` and `&`

or_digits : (x y : ℕ) → (x ≡ 0) ⊎ (x ≡ 1) → (y ≡ 0) ⊎ (y ≡ 1) → eqb (bit_or x y) 1 ≡ (eqb x 1 || eqb y 1)
or_digits x y (inl p) (inl q) = rw (p, q)
or_digits x y (inl p) (inr q) = rw (p, q)
or_digits x y (inr p) (inl q) = rw (p, q)
or_digits x y (inr p) (inr q) = rw (p, q)

and_digits : (x y : ℕ) → (x ≡ 0) ⊎ (x ≡ 1) → (y ≡ 0) ⊎ (y ≡ 1) → eqb (bit_and x y) 1 ≡ (eqb x 1 && eqb y 1)
and_digits x y (inl p) q = rw p
and_digits x y (inr p) (inl q) = rw (p, q)
and_digits x y (inr p) (inr q) = rw (p, q)

pub has_or : (a b i : ℕ) → has (bit_or a b) i ≡ (has a i || has b i)
unfolding has
has_or a b i =
    ap (λ (x : ℕ). eqb (x % 2) 1) (or_shr a b i) ∙ ap (λ (x : ℕ). eqb x 1) (or_mod (a / 2 ^ i) (b / 2 ^ i) 1)
    ∙ or_digits (a / 2 ^ i % 2) (b / 2 ^ i % 2) (parity (a / 2 ^ i)) (parity (b / 2 ^ i))

pub has_and : (a b i : ℕ) → has (bit_and a b) i ≡ (has a i && has b i)
unfolding has
has_and a b i =
    ap (λ (x : ℕ). eqb (x % 2) 1) (and_shr a b i) ∙ ap (λ (x : ℕ). eqb x 1) (and_mod (a / 2 ^ i) (b / 2 ^ i) 1)
    ∙ and_digits (a / 2 ^ i % 2) (b / 2 ^ i % 2) (parity (a / 2 ^ i)) (parity (b / 2 ^ i))

-- ---- a bit added

pub has_with : (m k i : ℕ) → has (with_bit m k) i ≡ (has m i || eqb i k)
unfolding with_bit
has_with m k i = has_or m (2 ^ k) i ∙ rw has_one

pub has_with_same : (m k : ℕ) → has (with_bit m k) k ≡ true
has_with_same m k = has_with m k k ∙ rw (eq-eqb k k refl) (or-true (has m k))

pub has_with_other : (m k i : ℕ) → (i ≡ k → ⊥) → has (with_bit m k) i ≡ has m i
has_with_other m k i ne = has_with m k i ∙ rw (ne_eqb i k ne) (or-false (has m i))

pub with_lt : (w m k : ℕ) → m < 2 ^ w → k < w → with_bit m k < 2 ^ w
unfolding with_bit
with_lt w m k h l = or_lt w m (2 ^ k) h (pow-lt l)

-- a bit above all that are set is a sum
pub with_above : (m k : ℕ) → m < 2 ^ k → with_bit m k ≡ 2 ^ k + m
unfolding with_bit
with_above m k h = rw one-mul at (or_shifted_r 1 k m h)

-- what `1 << k` computes to at the width w
pub one_shl : (w k : ℕ) → k < w → (1 * 2 ^ k) % 2 ^ w ≡ 2 ^ k
one_shl w k l = shl_exact 1 k w (omega arith) (omega arith) ∙ one-mul (2 ^ k)

-- ---- two masks as one

pub has_shifted_low : (a b n i : ℕ) → i < n → has (union_shifted a b n) i ≡ has a i
unfolding union_shifted
has_shifted_low a b zero i l = absurd (not-suc-le-zero l)
has_shifted_low a b (suc n) zero l = has_zero (b * 2 ^ suc n + a) ∙ rw block_odd (sym (has_zero a))
has_shifted_low a b (suc n) (suc i) l =
    has_suc (b * 2 ^ suc n + a) i ∙ rw block_half (has_shifted_low (a / 2) b n i (le_of_suc-le-suc l)) ∙ sym (has_suc a i)

pub has_shifted_high : (a b n i : ℕ) → a < 2 ^ n → n ≤ i → has (union_shifted a b n) i ≡ has b (i - n)
unfolding union_shifted
has_shifted_high a b n i h l =
    let e : i ≡ n + (i - n) = omega arith in
    ap (has (b * 2 ^ n + a)) e ∙ sym (has_shr (b * 2 ^ n + a) n (i - n)) ∙ ap (λ (x : ℕ). has x (i - n)) (high b n h)

-- ---- a mask by its bits

digit : (x y : ℕ) → (x ≡ 0) ⊎ (x ≡ 1) → (y ≡ 0) ⊎ (y ≡ 1) → eqb x 1 ≡ eqb y 1 → x ≡ y
digit x y (inl p) (inl q) e = p ∙ sym q
digit x y (inl p) (inr q) e = absurd (false≢true (rw (p, q) at e))
digit x y (inr p) (inl q) e = absurd (true≢false (rw (p, q) at e))
digit x y (inr p) (inr q) e = p ∙ sym q

pub mask_ext : (k a b : ℕ) → a < 2 ^ k → b < 2 ^ k → ((i : ℕ) → i < k → has a i ≡ has b i) → a ≡ b
mask_ext zero a b ha hb e = lt-one ha ∙ sym (lt-one hb)
mask_ext (suc k) a b ha hb e =
    let half : (x : ℕ) → x < 2 ^ suc k → x / 2 < 2 ^ k = λ x h. shr_lt k 1 (rw add-one h) in
    let above : a / 2 ≡ b / 2 =
    mask_ext k (a / 2) (b / 2) (half a ha) (half b hb) (λ i l. sym (has_suc a i) ∙ e (suc i) (omega arith) ∙ has_suc b i) in
    let here : a % 2 ≡ b % 2 = digit (a % 2) (b % 2) (parity a) (parity b) (sym (has_zero a) ∙ e 0 (omega arith) ∙ has_zero b) in
    omega arith

-- a mask with no bit from n on has n bits
pub mask_below : (n k a : ℕ) → a < 2 ^ k → ((i : ℕ) → n ≤ i → has a i ≡ false) → a < 2 ^ n
mask_below zero k a h e = omega (arith, mask_ext k a 0 h (pow_pos k) (λ i l. e i (omega arith) ∙ sym (has-none i)))
mask_below (suc n) k a h e =
    let above : a / 2 < 2 ^ n = mask_below n k (a / 2) (omega arith) (λ i l. sym (has_suc a i) ∙ e (suc i) (omega arith)) in
    rw pow-suc (omega arith)

-- ---- the mask of a test

pub mask_of_lt : (p : ℕ → Bool) (n : ℕ) → mask_of p n < 2 ^ n
unfolding mask_of
mask_of_lt p zero = omega arith
mask_of_lt p (suc n) = go (p n) (mask_of_lt p n)
  where
    go : (b : Bool) {r : ℕ} → r < 2 ^ n → cond b (2 ^ n + r) r < 2 ^ suc n
    go true h = rw pow-suc (omega arith)
    go false h = rw pow-suc (omega arith)

-- a turn of a loop that makes a mask: n is in, or it is not
pub mask_of_in : (p : ℕ → Bool) (n : ℕ) → p n ≡ true → with_bit (mask_of p n) n ≡ mask_of p (n + 1)
unfolding mask_of
mask_of_in p n e = with_above (mask_of p n) n (mask_of_lt p n) ∙ rw (add-one, e)

pub mask_of_out : (p : ℕ → Bool) (n : ℕ) → p n ≡ false → mask_of p n ≡ mask_of p (n + 1)
unfolding mask_of
mask_of_out p n e = rw (add-one, e)

pub has-mask_of : (p : ℕ → Bool) (n i : ℕ) → i < n → has (mask_of p n) i ≡ p i
unfolding mask_of
has-mask_of p zero i l = absurd (not-suc-le-zero l)
has-mask_of p (suc n) i l =
    ⊎_elim (λ (e : i ≡ n). rw e (here (p n) (mask_of_lt p n))) (λ (h : i < n). below (p n) (mask_of_lt p n) h ∙ has-mask_of p n i h)
    (eq-or-lt_of_le (le_of_suc-le-suc l))
  where
    here : (b : Bool) {r : ℕ} → r < 2 ^ n → has (cond b (2 ^ n + r) r) n ≡ b
    here true {r} h = rw (← with_above r n h) (has_with_same r n)
    here false {r} h = has-high r n n h (omega arith)

    below : (b : Bool) {r : ℕ} → r < 2 ^ n → i < n → has (cond b (2 ^ n + r) r) i ≡ has r i
    below true {r} h k = rw (← with_above r n h) (has_with_other r n i (λ (e : i ≡ n). omega arith))
    below false h k = refl

-- what is in the mask of a test is below its end, and passes the test
pub member_below : (p : ℕ → Bool) (n i : ℕ) → has (mask_of p n) i ≡ true → i < n
member_below p n i e = go (ltb i n) refl
  where
    go : (b : Bool) → ltb i n ≡ b → i < n
    go true l = ltb-true i n l
    go false l = absurd (true≢false (sym e ∙ has-high (mask_of p n) n i (mask_of_lt p n) (ltb-false i n l)))

pub member_passes : (p : ℕ → Bool) (n i : ℕ) → has (mask_of p n) i ≡ true → p i ≡ true
member_passes p n i e = sym (has-mask_of p n i (member_below p n i e)) ∙ e

-- every mask is the mask of its bits
pub mask_of-has : (m n : ℕ) → m < 2 ^ n → mask_of (has m) n ≡ m
mask_of-has m n h = mask_ext n (mask_of (has m) n) m (mask_of_lt (has m) n) h (has-mask_of (has m) n)

pub mask_of_ext : (p q : ℕ → Bool) (n : ℕ) → ((i : ℕ) → i < n → p i ≡ q i) → mask_of p n ≡ mask_of q n
mask_of_ext p q n e =
    mask_ext n (mask_of p n) (mask_of q n) (mask_of_lt p n) (mask_of_lt q n) (λ i l. has-mask_of p n i l ∙ e i l ∙ sym (has-mask_of q n i l))

pub mask_of_or : (p q : ℕ → Bool) (n : ℕ) → union (mask_of p n) (mask_of q n) ≡ mask_of (λ i. p i || q i) n
mask_of_or p q n =
    mask_ext n (union (mask_of p n) (mask_of q n)) (mask_of (λ i. p i || q i) n)
    (or_lt n (mask_of p n) (mask_of q n) (mask_of_lt p n) (mask_of_lt q n)) (mask_of_lt (λ i. p i || q i) n)
    (λ i l. has_or (mask_of p n) (mask_of q n) i ∙ rw (has-mask_of p n i l, has-mask_of q n i l) (sym (has-mask_of (λ i. p i || q i) n i l)))

-- the mask of all below n, as a number
pub all_of_is : (n : ℕ) → all_of n ≡ 2 ^ n - 1
unfolding mask_of
all_of_is zero = refl
all_of_is (suc n) = rw pow-suc (omega (arith, all_of_is n, pow_pos n))
