-- Binding definition: how many numbers below a limit pass a test.
use Rattle.std.specs.Prelude.{Bool, cond, ℕ, zero, suc}

-- how many i below n have p i
unfoldable pub count_of : (ℕ → Bool) → ℕ → ℕ
count_of p zero = 0
count_of p (suc n) = cond (p n) (suc (count_of p n)) (count_of p n)
