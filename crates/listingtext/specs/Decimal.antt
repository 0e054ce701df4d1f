-- Binding definition: numbers as ASCII text, in decimal digits. What the definitions mean: Laws/Decimals.
use Rattle.std.specs.Prelude.{cond, List, [], ◌∷◌, ◌++◌, ℕ, zero, suc, ◌+◌, ◌-◌, ◌*◌, ◌/◌, ◌%◌, ℤ, pos, negsuc, ltb}

-- the ASCII code of a digit from 0 to 9, and that of '-'
abbrev pub digit : ℕ → ℕ
digit d = 48 + d

abbrev pub minus : ℕ
minus = 45

-- The digits of n, the most significant first: the digit n where n is below 10, else the digits of n / 10 and then the digit n % 10. At most
-- `more` digits stand in front of the last, which n itself bounds.
unfoldable pub digits_in : ℕ → ℕ → List ℕ
digits_in zero n = digit n ∷ []
digits_in (suc more) n = cond (ltb n 10) (digit n ∷ []) (digits_in more (n / 10) ++ (digit (n % 10) ∷ []))

unfoldable pub decimal : ℕ → List ℕ
decimal n = digits_in n n

-- '-' in front of a number below 0; `negsuc n` is the number -(n + 1)
unfoldable pub signed_decimal : ℤ → List ℕ
signed_decimal (pos n) = decimal n
signed_decimal (negsuc n) = minus ∷ decimal (suc n)

-- the number that digits stand for, read from the first on behind digits that stand for v: by it a promise says what the digits mean
unfoldable pub read_from : ℕ → List ℕ → ℕ
read_from v [] = v
read_from v (d ∷ text) = read_from (10 * v + (d - 48)) text
