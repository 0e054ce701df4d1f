-- Binding definition: lists by index, what the definitions of the format and of the machine are made of.
use Rattle.std.specs.Prelude.{Bool, true, false, cond, ◌&&◌, ◌||◌, List, [], ◌∷◌, ◌++◌, ℕ, zero, suc, ◌+◌, ℤ, pos, ltb, get_or}

-- entry i of a list, 0 past its end
abbrev pub nat_at : List ℕ → ℕ → ℕ
nat_at xs i = get_or xs i 0

abbrev pub int_at : List ℤ → ℕ → ℤ
int_at xs i = get_or xs i (pos 0)

-- f 0, f 1, .., f (w - 1)
unfoldable pub table {ℓ} : {A : Type ℓ} → ℕ → (ℕ → A) → List A
table zero f = []
table (suc w) f = f zero ∷ table w (λ i. f (suc i))

-- an array of w entries of which `used` are used: f 0, .., f (used - 1), and z in the unused ones
unfoldable pub row {ℓ} : {A : Type ℓ} (z : A) (w used : ℕ) (f : ℕ → A) → List A
row z w used f = table w (λ i. cond (ltb i used) (f i) z)

-- f 0, f 1, .., f (n - 1), one behind the other
unfoldable pub joined {ℓ} : {A : Type ℓ} → (ℕ → List A) → ℕ → List A
joined f zero = []
joined f (suc n) = joined f n ++ f n

-- each i below n passes the test
unfoldable pub every : (ℕ → Bool) → ℕ → Bool
every test zero = true
every test (suc n) = every test n && test n

-- some i below n passes the test
unfoldable pub some : (ℕ → Bool) → ℕ → Bool
some test zero = false
some test (suc n) = some test n || test n

-- each entry of a list passes the test
unfoldable pub all {ℓ} : {A : Type ℓ} → (A → Bool) → List A → Bool
all test [] = true
all test (x ∷ xs) = test x && all test xs

-- the first i that passes the test, of the `left` numbers from i on, or the number behind them where none does
unfoldable pub first_from : (ℕ → Bool) → ℕ → ℕ → ℕ
first_from test i zero = i
first_from test i (suc left) = cond (test i) i (first_from test (i + 1) left)
