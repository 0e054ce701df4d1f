-- Laws: numbers that are read, and the bytes of a number, for every width w.
use Rattle.std.specs.Prelude.{ℕ, zero, suc, ◌+◌, ◌*◌, ◌/◌, ◌%◌, ◌^◌, ◌≤◌, ◌<◌, ◌≡◌, refl, List, [], ◌∷◌, ◌++◌, length, get_or, take, drop}
use Rattle.std.proofs.Common.{add-suc, suc-add, add-zero, add_assoc, pow-suc, arith, ap, ◌∙◌, drop-cons, get_or-append-add, get_or-drop, get_or-take}
use Rattle.std.proofs.Math.ListN.{get_or-append}
use Rattle.words.specs.Word.{Bytes, number_at, bytes_of, word}

-- a number of w bytes is below 256 ^ w
pub number_lt : (w : ℕ) {s : List ℕ} (at : ℕ) → Bytes s → number_at w s at < 256 ^ w
unfolding number_at
number_lt zero at b = omega arith
number_lt (suc w) {s} at b = rw pow-suc (omega (arith, b.byte at, number_lt w (suc at) b))

-- ---- where a number is read from

-- two places with the same bytes hold the same number
pub number_ext : (w : ℕ) (s t : List ℕ) (at to : ℕ) → ((i : ℕ) → i < w → get_or s (at + i) 0 ≡ get_or t (to + i) 0)
    → number_at w s at ≡ number_at w t to
unfolding number_at
number_ext zero s t at to h = refl
number_ext (suc w) s t at to h =
    let first : get_or s at 0 ≡ get_or t to 0 = simp add-zero at (h 0 (omega arith)) in
    let rest = number_ext w s t (suc at) (suc to) (λ i k. simp suc-add (simp add-suc at (h (suc i) (omega arith)))) in
    rw (first, rest)

module _ (w : ℕ) where
  -- behind a list
  pub number_behind : (p q : List ℕ) (at to : ℕ) → to ≡ length p + at → number_at w (p ++ q) to ≡ number_at w q at
  number_behind p q at to e = number_ext w (p ++ q) q to at (λ i k. rw (e, add_assoc) (get_or-append-add p q (at + i) 0))

  -- inside the first of two lists
  pub number_before : (p q : List ℕ) (at : ℕ) → at + w ≤ length p → number_at w (p ++ q) at ≡ number_at w p at
  number_before p q at h = number_ext w (p ++ q) p at at (λ i k. get_or-append p q 0 (at + i) (omega arith))

  -- among the first n bytes, behind the first a bytes, and among the first n of these
  pub number-take : (s : List ℕ) (n at : ℕ) → at + w ≤ n → number_at w (take n s) at ≡ number_at w s at
  number-take s n at h = number_ext w (take n s) s at at (λ i k. get_or-take n s (at + i) 0 (omega arith))

  pub number-drop : (s : List ℕ) (a at : ℕ) → number_at w (drop a s) at ≡ number_at w s (a + at)
  number-drop s a at = number_ext w (drop a s) s at (a + at) (λ i k. rw add_assoc (get_or-drop a s (at + i) 0))

  pub number-part : (s : List ℕ) (a n at : ℕ) → at + w ≤ n → number_at w (take n (drop a s)) at ≡ number_at w s (a + at)
  number-part s a n at h = number-take (drop a s) n at h ∙ number-drop s a at

-- "little-endian, 32 bits wide": the four bytes of a word, lowest first
pub word_bytes : (s : List ℕ) (at : ℕ)
    → word s at ≡ get_or s at 0 + 256 * get_or s (at + 1) 0 + 65536 * get_or s (at + 2) 0 + 16777216 * get_or s (at + 3) 0
unfolding number_at
word_bytes s at =
    let one : at + 1 ≡ suc at = omega arith in
    let two : at + 2 ≡ suc (suc at) = omega arith in
    let three : at + 3 ≡ suc (suc (suc at)) = omega arith in
    rw (one, two, three) (omega arith)

-- ---- the bytes of a number
pub length-bytes : (w v : ℕ) → length (bytes_of w v) ≡ w
unfolding bytes_of
length-bytes zero v = refl
length-bytes (suc w) v = ap suc (length-bytes w (v / 256))

-- read back they give the number
pub number-bytes : (w v : ℕ) (q : List ℕ) → v < 256 ^ w → number_at w (bytes_of w v ++ q) 0 ≡ v
unfolding number_at bytes_of
number-bytes zero v q h = omega arith
number-bytes (suc w) v q h =
    let k : v < 256 ^ w * 256 = rw pow-suc at h in
    let rest = number_behind w (v % 256 ∷ []) (bytes_of w (v / 256) ++ q) 0 1 refl ∙ number-bytes w (v / 256) q (omega arith) in
    omega arith

-- the bytes of the number that is read are those that stand there
pub bytes-number : (w : ℕ) {s : List ℕ} (at : ℕ) → Bytes s → at + w ≤ length s → bytes_of w (number_at w s at) ≡ take w (drop at s)
unfolding number_at bytes_of
bytes-number zero at b h = refl
bytes-number (suc w) {s} at b h =
    let k = b.byte at in
    let n = number_at w s (suc at) in
    let l : at < length s = omega arith in
    let low : (get_or s at 0 + 256 * n) % 256 ≡ get_or s at 0 = omega arith in
    let high : (get_or s at 0 + 256 * n) / 256 ≡ n = omega arith in
    rw (low, high, bytes-number w (suc at) b (omega arith), drop-cons s at 0)

-- ---- lists of bytes
pub bytes-append : {s t : List ℕ} → Bytes s → Bytes t → Bytes (s ++ t)
bytes-append {s} {t} b c = record { byte = go s (λ i. b.byte i) }
  where
    go : (s : List ℕ) → ((i : ℕ) → get_or s i 0 < 256) → (i : ℕ) → get_or (s ++ t) i 0 < 256
    go [] h i = c.byte i
    go (x ∷ s) h zero = h 0
    go (x ∷ s) h (suc i) = go s (λ j. h (suc j)) i

pub bytes_drop : {s : List ℕ} (n : ℕ) → Bytes s → Bytes (drop n s)
bytes_drop n b = record { byte = λ i. rw get_or-drop (b.byte (n + i)) }

pub bytes_take : {s : List ℕ} (n : ℕ) → Bytes s → Bytes (take n s)
bytes_take {s} n b = record { byte = go n s (λ i. b.byte i) }
  where
    go : (n : ℕ) (s : List ℕ) → ((i : ℕ) → get_or s i 0 < 256) → (i : ℕ) → get_or (take n s) i 0 < 256
    go zero s h i = omega arith
    go (suc n) [] h i = omega arith
    go (suc n) (x ∷ s) h zero = h 0
    go (suc n) (x ∷ s) h (suc i) = go n s (λ j. h (suc j)) i

pub bytes-bytes : (w v : ℕ) → Bytes (bytes_of w v)
unfolding bytes_of
bytes-bytes w v = record { byte = go w v }
  where
    go : (w v i : ℕ) → get_or (bytes_of w v) i 0 < 256
    go zero v i = omega arith
    go (suc w) v zero = omega arith
    go (suc w) v (suc i) = go w (v / 256) i
