-- Laws: 32-bit words that stand one behind the other, and a list whose first bytes are replaced by those of words.
use Rattle.std.specs.Prelude.{ℕ, zero, suc, ◌+◌, ◌-◌, ◌*◌, ◌^◌, ◌≤◌, ◌<◌, ◌≡◌, refl, List, [], ◌∷◌, ◌++◌, get_or, take, drop}
use Rattle.std.proofs.Common.{add-zero, arith, sym, ◌∙◌, append_assoc, append-nil, length-append, length-drop, drop_of_length-le, take_all, take-add, drop-drop}
use Rattle.std.proofs.Math.ListN.{length}
use Rattle.std.proofs.Math.Seq.{take_at, drop_at}
use Rattle.words.specs.Word.{Bytes, number_at, bytes_of, word, flat}
use Rattle.words.specs.Putting.{put, written}
use Rattle.words.proofs.Laws.Reading.{number_ext, number_behind, number_before, number-bytes, length-bytes, bytes-number}
use Rattle.words.proofs.Laws.Reading.{bytes-append, bytes_drop, bytes-bytes}
use Rattle.words.proofs.Laws.Writing.{get_or-rest}

-- ---- words one behind the other
pub length-flat : (ws : List ℕ) → length (flat ws) ≡ 4 * length ws
unfolding flat
length-flat [] = refl
length-flat (v ∷ ws) = simp (length-append, length-bytes, length-flat ws) (omega arith)

pub flat_append : (a b : List ℕ) → flat (a ++ b) ≡ flat a ++ flat b
unfolding flat
flat_append [] b = refl
flat_append (v ∷ a) b = rw (flat_append a b) (sym (append_assoc (bytes_of 4 v) (flat a) (flat b)))

pub bytes-flat : (ws : List ℕ) → Bytes (flat ws)
unfolding flat
bytes-flat [] = record { byte = λ i. omega arith }
bytes-flat (v ∷ ws) = bytes-append (bytes-bytes 4 v) (bytes-flat ws)

-- each word is read back
pub word_flat : (ws : List ℕ) (i : ℕ) → i < length ws → get_or ws i 0 < 2 ^ 32 → word (flat ws) (4 * i) ≡ get_or ws i 0
unfolding flat
word_flat [] i k h = absurd (omega arith)
word_flat (v ∷ ws) zero k h = number-bytes 4 v (flat ws) h
word_flat (v ∷ ws) (suc i) k h =
    let l = length-bytes 4 v in
    number_behind 4 (bytes_of 4 v) (flat ws) (4 * i) (4 * suc i) (omega arith) ∙ word_flat ws i (omega arith) h

-- words that were read from byte `at` on are the bytes that stand there
pub flat-read : (ws s : List ℕ) (at : ℕ) → Bytes s → at + 4 * length ws ≤ length s
    → ((i : ℕ) → i < length ws → get_or ws i 0 ≡ word s (at + 4 * i)) → flat ws ≡ take (4 * length ws) (drop at s)
unfolding flat
flat-read [] s at b h r = refl
flat-read (v ∷ ws) s at b h r =
    let first : v ≡ word s at = simp add-zero at (r 0 (omega arith)) in
    let move : (i : ℕ) → at + 4 * suc i ≡ at + 4 + 4 * i = λ i. omega arith in
    let rest = flat-read ws s (at + 4) b (omega arith) (λ i k. rw (← move i) (r (suc i) (omega arith))) in
    let e : 4 * suc (length ws) ≡ 4 + 4 * length ws = omega arith in
    rw (first, bytes-number 4 at b (omega arith), rest, e, take-add, drop-drop)

-- ---- words in front of what was there
module _ (ws old : List ℕ) where
  pub length-written : 4 * length ws ≤ length old → length (written ws old) ≡ length old
  unfolding written
  length-written h = simp (length-append, length-flat, length-drop) (omega arith)

  pub bytes-written : Bytes old → Bytes (written ws old)
  unfolding written
  bytes-written b = bytes-append (bytes-flat ws) (bytes_drop (4 * length ws) b)

  pub word-written : (i : ℕ) → i < length ws → get_or ws i 0 < 2 ^ 32 → word (written ws old) (4 * i) ≡ get_or ws i 0
  unfolding written
  word-written i k h =
      let l = length-flat ws in
      number_before 4 (flat ws) (drop (4 * length ws) old) (4 * i) (omega arith) ∙ word_flat ws i k h

  -- the words' bytes, and nothing else changed
  pub take-written : take (4 * length ws) (written ws old) ≡ flat ws
  unfolding written
  take-written = take_at (flat ws) (drop (4 * length ws) old) (4 * length ws) (length-flat ws)

  pub drop-written : drop (4 * length ws) (written ws old) ≡ drop (4 * length ws) old
  unfolding written
  drop-written = drop_at (flat ws) (drop (4 * length ws) old) (4 * length ws) (length-flat ws)

  pub get_or-written_other : (i : ℕ) → 4 * length ws ≤ i → get_or (written ws old) i 0 ≡ get_or old i 0
  get_or-written_other i h = get_or-rest (written ws old) old (4 * length ws) i drop-written h

  pub number-written_other : (w at : ℕ) → 4 * length ws ≤ at → number_at w (written ws old) at ≡ number_at w old at
  number-written_other w at h = number_ext w (written ws old) old at at (λ i k. get_or-written_other (at + i) (omega arith))

pub written_none : (old : List ℕ) → written [] old ≡ old
unfolding written flat
written_none old = refl

-- more words behind words
pub written-append : (ws ps old : List ℕ) → flat ws ++ written ps (drop (4 * length ws) old) ≡ written (ws ++ ps) old
unfolding written
written-append ws ps old =
    let e : 4 * length (ws ++ ps) ≡ 4 * length ws + 4 * length ps = simp length-append (omega arith) in
    rw (flat_append, append_assoc, drop-drop, e)

-- one word
written_one : (v : ℕ) (old : List ℕ) → bytes_of 4 v ++ drop 4 old ≡ written (v ∷ []) old
unfolding written flat
written_one v old = rw append-nil

-- one more word is put behind those that are written
pub written_more : (ws old : List ℕ) (at v : ℕ) → at ≡ 4 * length ws → put 4 (written ws old) at v ≡ written (ws ++ v ∷ []) old
unfolding put
written_more ws old at v e =
    rw (e, take-written, ← drop-drop 4 (4 * length ws) (written ws old), drop-written, written_one) (written-append ws (v ∷ []) old)

-- more words, written into the part that is lent from behind those that are written: s before, t the part when it comes back
pub written-part : (ws ps old : List ℕ) (at : ℕ) {s t : List ℕ} → s ≡ written ws old → at ≡ 4 * length ws → at ≤ length old
    → t ≡ written ps (take (length s - at) (drop at s)) → take at s ++ (t ++ drop (length s - at) (drop at s)) ≡ written (ws ++ ps) old
written-part ws ps old at p e h q =
    let l : length (written ws old) ≡ length old = length-written ws old (omega arith) in
    let m : length (drop at old) ≤ length old - at = simp length-drop (omega arith) in
    let all = take_all (length old - at) (drop at old) m in
    let none = drop_of_length-le (drop at old) m in
    rw (q, p, l, e, take-written, drop-written, ← e, all, none, append-nil, e) (written-append ws ps old)
