-- Binding definition: an integer limited to lo..hi, and the test that an integer lies within ±b.
use Rattle.std.specs.Prelude.{ℤ, pos, neg_ℤ, Bool, cond, ◌&&◌, ℕ}
use Rattle.std.specs.Int.Signed.{lt_z, le_z}

-- limited to lo..hi: lo if z is below it, else hi if z is above it, else z
unfoldable pub limited : ℤ → ℤ → ℤ → ℤ
limited lo hi z = cond (lt_z z lo) lo (cond (lt_z hi z) hi z)

-- within ±b, both ends allowed
unfoldable pub within : ℕ → ℤ → Bool
within b z = le_z (neg_ℤ (pos b)) z && le_z z (pos b)
