-- Laws: the plan that is read from a file that keeps the rules of a file is written as that file, byte for byte. Assumes nothing.
use Rattle.std.specs.Prelude.{◌≡◌, refl, get_or, take, drop}
use Rattle.std.proofs.Common.{sym, ap, ◌∙◌, add-zero, zero-add, add-suc, suc-add, mul-le-mul_left}
use mathlib.Core.List.{List, [], ◌∷◌, ◌++◌}
use Prim.Native.Nat.{ℕ, zero, suc, ◌+◌, ◌*◌, ◌≤◌, ◌<◌}
use Rattle.std.proofs.Math.Nat.{mul-zero}
use native.Mathlib.Omega.{arith}
use Rattle.std.proofs.Math.IntN.{pos}
use Rattle.std.proofs.Math.ListN.{length}
use Rattle.std.proofs.Math.Seq.{take_all}
use Rattle.words.specs.Word.{Bytes, unsigned_of, word, signed_word, word_of, flat}
use Rattle.words.proofs.Laws.Reading.{number_lt, bytes-number}
use Rattle.words.proofs.Laws.Flat.{length-flat, flat_append, flat-read}
use Rattle.words.proofs.Laws.Signs.{unsigned_signed}
use Rattle.plan.specs.Numbers.{sections, entry_sizes, header_bytes}
use Rattle.plan.specs.Lists.{nat_at, int_at, joined}
use Rattle.plan.specs.Format.{horizon_in, offset_in, length_in, count_in, part}
use Rattle.plan.specs.Format.{section_in, signeds_in, plan_in}
use Rattle.plan.specs.Rules.{OffsetRule, SizeRule}
use Rattle.plan.proofs.Laws.Layout.{length_of}
use Rattle.plan.specs.Encoding.{offset_of, header_words, integrator_words, input_words, node_words, link_words}
use Rattle.plan.specs.Encoding.{command_words, encode}
use Rattle.plan.proofs.Laws.FileRefusals.{counts_at}
use Rattle.plan.proofs.Laws.Joined.{joined_parts, flat_joined}
use Rattle.plan.proofs.Laws.Layout.{offset-first, offset-next, each_section, size_width, entry_words, section_words, words_to, length-entry, words_to_lem}
use Rattle.plan.proofs.Laws.Places.{column_at}
use Rattle.plan.proofs.Laws.Parts.{bytes_section, offsets, length-section_in, length-entries}

-- the words of a list, from its c-th on, are those that stand in s from byte `at` on
abbrev Reads : (s : List ℕ) (at c : ℕ) (ws : List ℕ) → Type 0
Reads s at c [] = Unit {0}
Reads s at c (v ∷ ws) = (v ≡ word s (at + 4 * c)) × Reads s at (suc c) ws

reads_at : (s : List ℕ) (at c : ℕ) (ws : List ℕ) → Reads s at c ws → (i : ℕ) → i < length ws → get_or ws i 0 ≡ word s (at + 4 * (c + i))
reads_at s at c [] r i h = absurd (omega arith)
reads_at s at c (v ∷ ws) r zero h = rw add-zero r.0
reads_at s at c (v ∷ ws) r (suc i) h = rw (add-suc c i, ← suc-add c i) (reads_at s at (suc c) ws r.1 i (omega arith))

-- the k-th list of words is read from byte at k on, inside s, and the next stands behind it
abbrev Follows : (s : List ℕ) (ws : ℕ → List ℕ) (at : ℕ → ℕ) (k : ℕ) → Type 0
Follows s ws at k = (at (suc k) ≡ at k + 4 * length (ws k)) × (at (suc k) ≤ length s) × Reads s (at k) 0 (ws k)

-- such lists of words are the bytes that stand there
joined_reads : (s : List ℕ) (ws : ℕ → List ℕ) (at : ℕ → ℕ) (n : ℕ) → Bytes s → ((k : ℕ) → k < n → Follows s ws at k)
    → take (at 0) s ++ flat (joined ws n) ≡ take (at n) s
joined_reads s ws at n b e =
    rw flat_joined (joined_parts (λ k. flat (ws k)) s at n (λ k h. rw length-flat ((e k h).0, each k (e k h))))
  where
    each : (k : ℕ) → Follows s ws at k → flat (ws k) ≡ take (4 * length (ws k)) (drop (at k) s)
    each k r = flat-read (ws k) s (at k) b (omega arith) (λ i l. rw zero-add at (reads_at s (at k) 0 (ws k) r.2 i l))

module _ (file : List ℕ) (b : Bytes file) (o : OffsetRule file) (z : SizeRule file) where
  -- ---- the words of an entry
  signed_at : (k i : ℕ) → k < sections → i < count_in file k → (c : ℕ)
      → word_of (int_at (signeds_in file k c) i) ≡ word (section_in file k) (nat_at entry_sizes k * i + 4 * c)
  signed_at k i h l c =
      let at = nat_at entry_sizes k * i + 4 * c in
      ap word_of (column_at file z (pos 0) signed_word k i h l c)
      ∙ unsigned_signed 4 (word (section_in file k) at) (number_lt 4 at (bytes_section file b k))

  entry_reads : (k i : ℕ) → k < sections → i < count_in file k
      → Reads (section_in file k) (nat_at entry_sizes k * i) 0 (entry_words (plan_in file) k i)
  unfolding plan_in unsigned_of entry_words integrator_words input_words node_words link_words command_words
  entry_reads k i =
      each_section (λ k. i < count_in file k → Reads (section_in file k) (nat_at entry_sizes k * i) 0 (entry_words (plan_in file) k i))
      (λ l. (signed_at 0 i (omega arith) l 0, (ap word_of (column_at file z (pos 0) (λ s at. pos (word s at)) 0 i (omega arith) l 1), tt)))
      (λ l. (signed_at 1 i (omega arith) l 0, tt))
      (λ l. let plain = column_at file z 0 word 2 i (omega arith) l in (plain 0, (plain 1, (plain 2, limits l))))
      (λ l. let plain = column_at file z 0 word 3 i (omega arith) l in (plain 0, (plain 1, (signed_at 3 i (omega arith) l 2, tt))))
      (λ l. let plain = column_at file z 0 word 4 i (omega arith) l in (plain 0, (plain 1, (signed_at 4 i (omega arith) l 2, tt))))
      k
    where
      limits : i < count_in file 2
          → Reads (section_in file 2) (20 * i) 3 (word_of (int_at (signeds_in file 2 3) i) ∷ word_of (int_at (signeds_in file 2 4) i) ∷ [])
      limits l = let signed = signed_at 2 i (omega arith) l in (signed 3, (signed 4, tt))

  -- ---- a section
  length_in_lem : (k : ℕ) → k < sections → length_of (plan_in file) k ≡ length_in file k
  unfolding length_of
  length_in_lem k h = rw (counts_at file k h) (sym (length-entries file z k h))

  section_written : (k : ℕ) → k < sections → flat (section_words (plan_in file) k) ≡ section_in file k
  unfolding section_words
  section_written k h =
      let all = joined_reads (section_in file k) words (λ i. size * i) (count_in file k) (bytes_section file b k) ascends_at in
      rw (counts_at file k h) (rw mul-zero at all ∙ take_all (size * count_in file k) (section_in file k) (omega (arith, whole)))
    where
      size : ℕ
      size = nat_at entry_sizes k

      words : ℕ → List ℕ
      words = entry_words (plan_in file) k

      whole : length (section_in file k) ≡ size * count_in file k
      whole = length-section_in file o k h ∙ length-entries file z k h

      ascends_at : (i : ℕ) → i < count_in file k → Follows (section_in file k) words (λ i. size * i) i
      ascends_at i l =
          let width : 4 * length (words i) ≡ size = rw (length-entry (plan_in file) k i h, size_width k h) in
          (omega arith, omega (arith, whole, mul-le-mul_left size l), entry_reads k i h l)

  -- ---- the header
  offset_in_lem : (k : ℕ) → k < sections → offset_of (plan_in file) k ≡ offset_in file k
  offset_in_lem zero h = offset-first (plan_in file) ∙ sym o.first
  offset_in_lem (suc k) h = rw (offset-next (plan_in file) k, offset_in_lem k (omega arith), length_in_lem k (omega arith)) (sym (o.next k h))

  header-written : flat (header_words (plan_in file)) ≡ take header_bytes file
  unfolding header_words offset_of length_of flat plan_in horizon_in offset_in length_in
  header-written = rw (bytes-number 4 0 b (omega (arith, long))) (joined_reads file pairs (λ k. 4 + 8 * k) sections b ascends_at)
    where
      long : header_bytes ≤ length file
      long = omega (arith, offsets file o)

      pairs : ℕ → List ℕ
      pairs k = offset_of (plan_in file) k ∷ length_of (plan_in file) k ∷ []

      ascends_at : (k : ℕ) → k < sections → Follows file pairs (λ k. 4 + 8 * k) k
      ascends_at k h =
          let first : 4 + 8 * k + 4 * 0 ≡ 4 + 8 * k = omega arith in
          let second : 4 + 8 * k + 4 * 1 ≡ 8 + 8 * k = omega arith in
          (omega arith, omega (arith, long), (rw first (offset_in_lem k h), (rw second (length_in_lem k h), tt)))

  -- ---- the file
  pub file_back : encode (plan_in file) ≡ file
  unfolding encode words_to section_in part
  file_back =
      let last : 4 < sections = omega arith in
      let end : length file ≡ offset_of (plan_in file) sections = rw (offset-next (plan_in file) 4, offset_in_lem 4 last, length_in_lem 4 last) (o.last 4 refl) in
      let all = rw (offset-first (plan_in file)) at (joined_parts section_bytes file (offset_of (plan_in file)) sections ascends_at) in
      rw (words_to_lem (plan_in file), flat_append, flat_joined, header-written)
      (all ∙ take_all (offset_of (plan_in file) sections) file (omega arith))
    where
      section_bytes : ℕ → List ℕ
      section_bytes k = flat (section_words (plan_in file) k)

      ascends_at : (k : ℕ) → k < sections
          → (offset_of (plan_in file) (suc k) ≡ offset_of (plan_in file) k + length (section_bytes k))
          × (section_bytes k ≡ take (length (section_bytes k)) (drop (offset_of (plan_in file) k) file))
      ascends_at k h =
          rw (offset-next (plan_in file) k, section_written k h, length-section_in file o k h, offset_in_lem k h, length_in_lem k h) (refl, refl)
