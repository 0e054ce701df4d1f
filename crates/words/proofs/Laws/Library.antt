-- Laws: at 32 bits std's methods give what the definitions say. Assumes nothing.
use Rattle.std.specs.Prelude.{◌≡◌, refl, ℕ, ◌+◌, ◌/◌, ◌^◌, ◌<◌, [], ◌∷◌, List, ◌++◌, get_or, take, drop, ℤ, pos, negsuc}
use Rattle.std.proofs.Common.{arith, ◌∙◌, drop-drop, to_z, of_z}
use Rattle.std.proofs.lemmas.Int.{ints}
use Rattle.std.specs.Int.{w32, to_le_bytes, from_le_bytes}
use Rattle.words.specs.Word.{bytes_of, word, signed_of, word_of, unsigned_of}
use Rattle.words.specs.Putting.{put}
use Rattle.words.proofs.Laws.Reading.{word_bytes}

-- ---- unsigned
pub le_bytes : (v : ℕ) → to_le_bytes w32 v ≡ bytes_of 4 v
unfolding bytes_of
le_bytes v =
    let third : v / 65536 ≡ v / 256 / 256 = omega arith in
    let fourth : v / 16777216 ≡ v / 256 / 256 / 256 = omega arith in
    rw (third, fourth) refl

-- stored over the four bytes from byte `at` on they are the word put there
pub bytes_put : (s : List ℕ) (at v k : ℕ) {t : List ℕ} → k ≡ 4 → t ≡ to_le_bytes w32 v → take at s ++ (t ++ drop k (drop at s)) ≡ put 4 s at v
unfolding put
bytes_put s at v k e f = rw (e, f ∙ le_bytes v, drop-drop 4 at s)

pub from_le : (s : List ℕ) (at : ℕ) → from_le_bytes w32 (get_or s at 0 ∷ get_or s (at + 1) 0 ∷ get_or s (at + 2) 0 ∷ get_or s (at + 3) 0 ∷ []) ≡ word s at
from_le s at = omega (arith, word_bytes s at)

-- ---- two's complement
pub signed_is : (v : ℕ) → v < 2 ^ 32 → to_z w32 v ≡ signed_of 4 v
unfolding signed_of
signed_is v h = grind (arith, ints)

pub unsigned_is : (z : ℤ) → of_z w32 z ≡ word_of z
unfolding unsigned_of
unsigned_is (pos n) = refl
unsigned_is (negsuc n) = refl
