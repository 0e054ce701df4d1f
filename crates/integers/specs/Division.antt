-- Binding definition: division that rounds towards minus infinity, and division of naturals that rounds up; this one as a proposition too.
use Rattle.std.specs.Prelude.{ℤ, ℕ, ◌+◌, ◌-◌, ◌*◌, ◌/◌, ◌≤◌, ◌<◌}
use Rattle.std.specs.Int.Signed.{shr_z}

-- v divided by a divisor, rounded towards minus infinity: the library's shift that copies the sign bit, at any divisor
abbrev pub floor_div : ℤ → ℕ → ℤ
floor_div v divisor = shr_z v divisor

-- floor(v / 65,536), the one division by which the rules scale a value
abbrev pub floor65536 : ℤ → ℤ
floor65536 v = floor_div v 65536

-- a divided by b, rounded up
unfoldable pub ceil_div : ℕ → ℕ → ℕ
ceil_div a b = (a + (b - 1)) / b

-- the same as a proposition: t is enough, a ≤ b t, and one less is not. `ceil` and `ceil_unique` of Laws/Division say that ceil_div a b is the one such t
pub record Ceil (a b t : ℕ) : Type 0 where
  pub enough : a ≤ b * t
  pub less : b * t < a + b
