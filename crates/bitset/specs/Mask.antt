-- Model of the code: a mask is a number read as a set, bit i set where i is in the set. Laws/Bits and Laws/Visiting say what is in each set.
use Rattle.std.specs.Prelude.{◌≡◌, Bool, true, cond, Option, MatchOption, ◌<◌, ℕ, zero, suc, ◌+◌, ◌-◌, ◌*◌, ◌/◌, ◌%◌, ◌^◌, eqb}
use Rattle.std.specs.Int.Bits.{bit_and, bit_or}
use Rattle.std.specs.Int.Count.{count_trailing_zeros}

-- i is in m: bit i of m is 1
unfoldable pub has : ℕ → ℕ → Bool
has m i = eqb (m / 2 ^ i % 2) 1

-- the mask of the i below n with p i: the sum of their powers of two
unfoldable pub mask_of : (ℕ → Bool) → ℕ → ℕ
mask_of p zero = 0
mask_of p (suc n) = cond (p n) (2 ^ n + mask_of p n) (mask_of p n)

-- the loop with a test: from the state s, f i for each i below n with p i, in ascending order
unfoldable pub each : {S : Type 0} (f : ℕ → S → S) (p : ℕ → Bool) (n : ℕ) (s : S) → S
each f p zero s = s
each f p (suc n) s = cond (p n) (f n (each f p n s)) (each f p n s)

-- the mask of all i below n
abbrev pub all_of : ℕ → ℕ
all_of n = mask_of (λ _. true) n

-- what is in a or in b
abbrev pub union : ℕ → ℕ → ℕ
union a b = bit_or a b

-- m and i
unfoldable pub with_bit : ℕ → ℕ → ℕ
with_bit m i = union m (2 ^ i)

-- the lowest i in m, a mask of w bits: how many zeros stand below the lowest set bit; w where m is empty
abbrev pub lowest_of : ℕ → ℕ → ℕ
lowest_of w m = count_trailing_zeros w m

-- m without its lowest
abbrev pub rest_of : ℕ → ℕ
rest_of m = bit_and m (m - 1)

-- the i in `low`, all of them below n, and n + i for the i in `high`
unfoldable pub union_shifted : ℕ → ℕ → ℕ → ℕ
union_shifted low high n = high * 2 ^ n + low

-- a turn of a walk over m, a mask of w bits: it takes the lowest and leaves t, or nothing where m is empty
abbrev pub TakesLowest : (w m : ℕ) → Option ℕ → ℕ → Type 0
TakesLowest w m taken t = MatchOption taken ((m ≡ 0) × (t ≡ 0)) (λ i. (0 < m) × (i ≡ lowest_of w m) × (t ≡ rest_of m))
