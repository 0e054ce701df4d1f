-- Binding definition: numbers in a list of bytes, little-endian, signed ones in two's complement. The width w is a number of bytes; files and
-- events use 4.
use Rattle.std.specs.Prelude.{ℕ, zero, suc, ◌+◌, ◌-◌, ◌*◌, ◌/◌, ◌%◌, ◌^◌, ◌<◌, List, [], ◌∷◌, ◌++◌, cond, get_or, ltb, ℤ, pos, negsuc}
use Rattle.std.proofs.Math.IntN.{sub_ℕ}

-- each element is a byte
pub record Bytes (s : List ℕ) : Type 0 where
  pub byte : (i : ℕ) → get_or s i 0 < 256

-- the number whose w bytes, lowest first, start at byte `at` of s
unfoldable pub number_at : ℕ → List ℕ → ℕ → ℕ
number_at zero s at = 0
number_at (suc w) s at = get_or s at 0 + 256 * number_at w s (suc at)

-- the w bytes of v, lowest first
unfoldable pub bytes_of : ℕ → ℕ → List ℕ
bytes_of zero v = []
bytes_of (suc w) v = v % 256 ∷ bytes_of w (v / 256)

-- what w bytes of value v stand for in two's complement: v if its highest bit is 0, else v less 2 to the number of bits
unfoldable pub signed_of : ℕ → ℕ → ℤ
signed_of w v = cond (ltb v (2 ^ (8 * w - 1))) (pos v) (sub_ℕ v (2 ^ (8 * w)))

-- the value of the w bytes that stand for a number in two's complement
unfoldable pub unsigned_of : ℕ → ℤ → ℕ
unsigned_of w (pos n) = n
unsigned_of w (negsuc n) = 2 ^ (8 * w) - suc n

-- 32 bits: the word that starts at byte `at`, unsigned and signed, and the word of a signed number
abbrev pub word : List ℕ → ℕ → ℕ
word s at = number_at 4 s at

abbrev pub signed_word : List ℕ → ℕ → ℤ
signed_word s at = signed_of 4 (number_at 4 s at)

abbrev pub word_of : ℤ → ℕ
word_of z = unsigned_of 4 z

-- the bytes of 32-bit words, one behind the other
unfoldable pub flat : List ℕ → List ℕ
flat [] = []
flat (v ∷ vs) = bytes_of 4 v ++ flat vs
