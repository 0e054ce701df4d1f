-- Laws: what the decimal digits of a number mean: they are digits, with no 0 in front, and the number is read back from them. Assumes
-- nothing.
use Rattle.std.specs.Prelude.{◌≡◌, Bool, cond, List, [], ◌∷◌, ◌++◌, length, get_or}
use Rattle.std.proofs.Math.Path.{refl}
use Rattle.std.proofs.Common.{◌∙◌, pow-suc, arith, length-append}
use Rattle.std.proofs.Math.Bool.{true, false}
use Prim.Native.Nat.{ℕ, zero, suc, ◌+◌, ◌-◌, ◌*◌, ◌/◌, ◌%◌, ◌^◌, ◌≤◌, ◌<◌}
use Rattle.std.proofs.Math.Dec.{ltb}
use borrow.Author.Tests.{ltb-true, ltb-false, lt-ltb, le-ltb}
use Rattle.listingtext.specs.Decimal.{digit, digits_in, decimal, read_from}

-- Induction along the digits: what holds of a number below 10 and its digit, and is handed on by one digit more, holds of every number and
-- its digits.
module _ (P : ℕ → List ℕ → Type 0) (one : (n : ℕ) → n < 10 → P n (digit n ∷ []))
    (more : (n : ℕ) (front : List ℕ) → 10 ≤ n → P (n / 10) front → P n (front ++ (digit (n % 10) ∷ []))) where
  along_in : (k n : ℕ) → n ≤ k → P n (digits_in k n)
  unfolding digits_in
  along_in zero n h = one n (omega arith)
  along_in (suc k) n h = go (ltb n 10) refl (λ l. along_in k (n / 10) (omega arith))
    where
      go : (b : Bool) → ltb n 10 ≡ b → (10 ≤ n → P (n / 10) (digits_in k (n / 10)))
          → P n (cond b (digit n ∷ []) (digits_in k (n / 10) ++ (digit (n % 10) ∷ [])))
      go true e ih = one n (ltb-true n 10 e)
      go false e ih = let l = ltb-false n 10 e in more n (digits_in k (n / 10)) l (ih l)

  pub along_digits : (n : ℕ) → P n (decimal n)
  unfolding decimal
  along_digits n = along_in n n (omega arith)

-- ---- the two cases
enough : (k m n : ℕ) → n ≤ k → n ≤ m → digits_in k n ≡ digits_in m n
unfolding digits_in
enough zero zero n h l = refl
enough zero (suc m) n h l = rw (lt-ltb n 10 (omega arith))
enough (suc k) zero n h l = rw (lt-ltb n 10 (omega arith))
enough (suc k) (suc m) n h l = go (ltb n 10) refl (λ t. enough k m (n / 10) (omega arith) (omega arith))
  where
    go : (b : Bool) → ltb n 10 ≡ b → (10 ≤ n → digits_in k (n / 10) ≡ digits_in m (n / 10))
        → cond b (digit n ∷ []) (digits_in k (n / 10) ++ (digit (n % 10) ∷ []))
        ≡ cond b (digit n ∷ []) (digits_in m (n / 10) ++ (digit (n % 10) ∷ []))
    go true e ih = refl
    go false e ih = rw (ih (ltb-false n 10 e))

pub decimal-one : (n : ℕ) → n < 10 → decimal n ≡ digit n ∷ []
unfolding decimal digits_in
decimal-one zero h = refl
decimal-one (suc n) h = rw (lt-ltb (suc n) 10 h)

pub decimal_more : (n : ℕ) → 10 ≤ n → decimal n ≡ decimal (n / 10) ++ (digit (n % 10) ∷ [])
unfolding decimal digits_in
decimal_more zero h = absurd (omega arith)
decimal_more (suc n) h = rw (le-ltb (suc n) 10 h, enough n (suc n / 10) (suc n / 10) (omega arith) (omega arith))

-- ---- how many there are
pub length-decimal : (k n : ℕ) → n < 10 ^ suc k → length (decimal n) ≤ suc k
length-decimal k n h = along_digits Short one more n k h
  where
    Short : ℕ → List ℕ → Type 0
    Short n text = (k : ℕ) → n < 10 ^ suc k → length text ≤ suc k

    one : (n : ℕ) → n < 10 → Short n (digit n ∷ [])
    one n h k l = omega arith

    more : (n : ℕ) (front : List ℕ) → 10 ≤ n → Short (n / 10) front → Short n (front ++ (digit (n % 10) ∷ []))
    more n front h ih zero l = absurd (omega arith)
    more n front h ih (suc k) l =
        let s : n < 10 ^ suc k * 10 = rw pow-suc at l in
        let before = ih k (omega arith) in
        simp length-append (omega arith)

pub decimal-some : (n : ℕ) → 1 ≤ length (decimal n)
decimal-some = along_digits (λ _ text. 1 ≤ length text) (λ n h. omega arith) (λ n front h ih. simp length-append (omega arith))

-- ---- each is a digit, and none in front of others is 0
pub decimal-digits : (n i : ℕ) → i < length (decimal n) → (48 ≤ get_or (decimal n) i 0) × (get_or (decimal n) i 0 ≤ 57)
decimal-digits n =
    along_digits (λ _ text. AllDigits text) (λ n h. one (digit n) (omega arith))
    (λ n front h ih. behind front (digit (n % 10)) ih (omega arith)) n
  where
    AllDigits : List ℕ → Type 0
    AllDigits text = (i : ℕ) → i < length text → (48 ≤ get_or text i 0) × (get_or text i 0 ≤ 57)

    one : (d : ℕ) → (48 ≤ d) × (d ≤ 57) → AllDigits (d ∷ [])
    one d h zero l = h
    one d h (suc i) l = absurd (omega arith)

    behind : (front : List ℕ) (d : ℕ) → AllDigits front → (48 ≤ d) × (d ≤ 57) → AllDigits (front ++ (d ∷ []))
    behind [] d f h i l = one d h i l
    behind (x ∷ front) d f h zero l = f zero (omega arith)
    behind (x ∷ front) d f h (suc i) l = behind front d (λ j m. f (suc j) (omega arith)) h i (omega arith)

pub decimal-first : (n : ℕ) → 1 ≤ n → 49 ≤ get_or (decimal n) 0 0
decimal-first n = along_digits (λ n text. 1 ≤ n → 49 ≤ get_or text 0 0) (λ n h l. omega arith) (λ n front h ih l. behind front _ (ih (omega arith))) n
  where
    behind : (front : List ℕ) (d : ℕ) → 49 ≤ get_or front 0 0 → 49 ≤ get_or (front ++ (d ∷ [])) 0 0
    behind [] d h = absurd (omega arith)
    behind (x ∷ front) d h = h

-- ---- the number is read back, digit by digit from the first
read-append : (v : ℕ) (front : List ℕ) (d : ℕ) → read_from v (front ++ (d ∷ [])) ≡ 10 * read_from v front + (d - 48)
unfolding read_from
read-append v [] d = refl
read-append v (x ∷ front) d = read-append (10 * v + (x - 48)) front d

pub decimal-read : (n : ℕ) → read_from 0 (decimal n) ≡ n
unfolding read_from
decimal-read =
    along_digits (λ n text. read_from 0 text ≡ n) (λ n h. omega arith)
    (λ n front h ih. read-append 0 front (digit (n % 10)) ∙ omega arith)
