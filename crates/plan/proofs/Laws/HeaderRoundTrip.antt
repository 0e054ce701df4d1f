-- Laws: the header of the file of a plan that keeps the rules is read as it was written, and the file keeps the rules of a file. Assumes
-- nothing.
use Rattle.std.specs.Prelude.{◌≡◌, ◌&&◌, ◌++◌}
use Rattle.std.proofs.Math.Path.{refl, sym}
use Rattle.std.proofs.Common.{◌∙◌}
use Rattle.std.proofs.Math.Bool.{Bool, true}
use Prim.Native.Nat.{ℕ, zero, suc, ◌+◌, ◌*◌, ◌/◌, ◌%◌, ◌≤◌, ◌<◌}
use native.Mathlib.Omega.{arith}
use Rattle.std.proofs.Math.Dec.{eqb}
use Rattle.std.proofs.Math.ListN.{length, get_or, length-append, get_or-append}
use borrow.Author.Tests.{le-leb, eq-eqb}
use Rattle.words.specs.Word.{word, flat}
use Rattle.words.proofs.Laws.Flat.{word_flat}
use Rattle.plan.specs.Numbers.{sections, entry_sizes, least_counts, largest_counts, header_bytes}
use Rattle.plan.specs.Lists.{nat_at, joined}
use Rattle.plan.specs.Format.{horizon_in, offset_in, length_in, required_offset}
use Rattle.plan.specs.Format.{count_in, section_in}
use Rattle.plan.specs.Tests.{long_enough, offsets_kept, count_kept, sizes_kept, count_list}
use Rattle.plan.specs.Rules.{PlanRules}
use Rattle.plan.specs.Encoding.{offset_from, offset_of, file_length, header_words, file_words, encode}
use Rattle.plan.proofs.Laws.Layout.{length_of}
use Rattle.plan.proofs.Laws.Searches.{every_true}
use Rattle.plan.proofs.Laws.Layout.{each_section, section_words, words_to, words_to_lem, length-header, length-encode, part-encode}
use Rattle.plan.proofs.Laws.Layout.{header-offset, header-length, file_least}
use Rattle.plan.proofs.Laws.Small.{small_at, file_small}
use Rattle.plan.specs.declared.Plan.{Plan}

-- a section's length is a whole number of entries
length_whole : (p : Plan) (k : ℕ) → k < sections
    → (length_of p k / nat_at entry_sizes k ≡ nat_at (count_list p) k) × (length_of p k % nat_at entry_sizes k ≡ 0)
unfolding length_of
length_whole p =
    each_section (λ k. (length_of p k / nat_at entry_sizes k ≡ nat_at (count_list p) k) × (length_of p k % nat_at entry_sizes k ≡ 0))
    (omega arith) (omega arith) (omega arith) (omega arith) (omega arith)

module _ (p : Plan) (r : PlanRules p) where
  -- word j of the header
  header_read : (j : ℕ) → 4 * j < header_bytes → word (encode p) (4 * j) ≡ get_or (header_words p) j 0
  unfolding encode words_to
  header_read j h =
      let l = length-header p in
      let rest = joined (section_words p) sections in
      let at : get_or (header_words p ++ rest) j 0 ≡ get_or (header_words p) j 0 = get_or-append (header_words p) rest 0 j (omega arith) in
      let same : get_or (file_words p) j 0 ≡ get_or (header_words p) j 0 = rw (words_to_lem p) at in
      let inside : j < length (file_words p) = rw (words_to_lem p, length-append (header_words p) rest) (omega arith) in
      word_flat (file_words p) j inside (small_at (file_words p) (file_small p r) j) ∙ same

  pub horizon_back : horizon_in (encode p) ≡ p.horizon
  unfolding horizon_in header_words
  horizon_back = header_read 0 (omega arith)

  pub offset_back : (k : ℕ) → k < sections → offset_in (encode p) k ≡ offset_of p k
  unfolding offset_in
  offset_back k h =
      let e : 4 + 8 * k ≡ 4 * (1 + 2 * k) = omega arith in rw e (header_read (1 + 2 * k) (omega arith) ∙ header-offset p k h)

  pub length_back : (k : ℕ) → k < sections → length_in (encode p) k ≡ length_of p k
  unfolding length_in
  length_back k h =
      let e : 8 + 8 * k ≡ 4 * (2 + 2 * k) = omega arith in rw e (header_read (2 + 2 * k) (omega arith) ∙ header-length p k h)

  pub start_back : (k : ℕ) → k ≤ sections → required_offset (encode p) k ≡ offset_of p k
  unfolding required_offset offset_from offset_of length_of
  start_back zero h = refl
  start_back (suc k) h = rw (offset_back k h, length_back k h)

  pub count_back : (k : ℕ) → k < sections → count_in (encode p) k ≡ nat_at (count_list p) k
  unfolding count_in
  count_back k h = rw (length_back k h) (length_whole p k h).0

  pub section_back : (k : ℕ) → k < sections → section_in (encode p) k ≡ flat (section_words p k)
  unfolding section_in
  section_back k h = rw (offset_back k h, length_back k h) (part-encode p k h)

  -- ---- the rules of the file
  pub long_enough_lem : long_enough (encode p) ≡ true
  unfolding long_enough
  long_enough_lem = le-leb header_bytes (length (encode p)) (omega (arith, length-encode p, file_least p r.counts))

  pub offsets_back : offsets_kept (encode p) ≡ true
  unfolding offsets_kept file_length
  offsets_back =
      let file = encode p in
      let end = eq-eqb (length file) (required_offset file sections) (length-encode p ∙ sym (start_back sections (omega arith))) in
      rw ((every_true (λ k. eqb (offset_in file k) (required_offset file k)) sections).1 offsets, end)
    where
      offsets : (k : ℕ) → k < sections → eqb (offset_in (encode p) k) (required_offset (encode p) k) ≡ true
      offsets k h = eq-eqb (offset_in (encode p) k) (required_offset (encode p) k) (offset_back k h ∙ sym (start_back k (omega arith)))

  pub sizes_back : sizes_kept (encode p) ≡ true
  unfolding sizes_kept count_kept
  sizes_back = (every_true test sections).1 kept
    where
      test : ℕ → Bool
      test k = eqb (length_in (encode p) k % nat_at entry_sizes k) 0 && count_kept k (count_in (encode p) k)

      kept : (k : ℕ) → k < sections → test k ≡ true
      kept k h =
          let c = nat_at (count_list p) k in
          let whole = eq-eqb (length_of p k % nat_at entry_sizes k) 0 (length_whole p k h).1 in
          let limits = r.counts k h in
          rw (length_back k h, count_back k h, whole, le-leb (nat_at least_counts k) c limits.0, le-leb c (nat_at largest_counts k) limits.1)
