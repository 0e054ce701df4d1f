-- Binding definition: the size of an integer, which is the sum of its positive and its negative part. One of the two is 0.
use Rattle.std.specs.Prelude.{ℤ, pos, negsuc, ℕ, suc, ◌+◌}

-- the positive part, and the negative
abbrev pub positive_part : ℤ → ℕ
positive_part (pos n) = n
positive_part (negsuc n) = 0

abbrev pub negative_part : ℤ → ℕ
negative_part (pos n) = 0
negative_part (negsuc n) = suc n

-- the size, as `omega` reads it; `abs` of Laws/Parts says that it is the library's natAbs
abbrev pub ∣◌∣ : ℤ → ℕ
∣ z ∣ = positive_part z + negative_part z
