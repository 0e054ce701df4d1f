-- Laws: the sections of a file that keeps the rules of a file: where they end, how long they are, and the file's limits. Assumes nothing.
use Rattle.std.specs.Prelude.{◌≡◌, refl, List, ℕ, ◌+◌, ◌*◌, ◌%◌, ◌^◌, ◌≤◌, ◌<◌, length}
use Rattle.std.proofs.Common.{mul-le-mul_left, arith, length-take, length-drop}
use Rattle.words.specs.Word.{Bytes}
use Rattle.words.proofs.Laws.Reading.{number_lt, bytes_take, bytes_drop}
use Rattle.plan.specs.Numbers.{sections, entry_sizes, least_counts, largest_counts, header_bytes}
use Rattle.plan.specs.Lists.{nat_at}
use Rattle.plan.specs.Format.{offset_in, length_in, count_in, part}
use Rattle.plan.specs.Format.{section_in}
use Rattle.plan.specs.Rules.{OffsetRule, SizeRule}
use Rattle.plan.proofs.Laws.Layout.{each_section}

module _ (file : List ℕ) where
  -- what is read is below 2 ^ 32
  pub offset_lt : Bytes file → (k : ℕ) → offset_in file k < 2 ^ 32
  unfolding offset_in
  offset_lt b k = number_lt 4 (4 + 8 * k) b

  pub length_lt : Bytes file → (k : ℕ) → length_in file k < 2 ^ 32
  unfolding length_in
  length_lt b k = number_lt 4 (8 + 8 * k) b

  pub bytes_section : Bytes file → (k : ℕ) → Bytes (section_in file k)
  unfolding section_in part
  bytes_section b k = bytes_take (length_in file k) (bytes_drop (offset_in file k) b)

  module _ (o : OffsetRule file) where
    -- the sections stand one behind the other
    pub offsets : (offset_in file 0 ≡ header_bytes) × (offset_in file 1 ≡ offset_in file 0 + length_in file 0)
        × (offset_in file 2 ≡ offset_in file 1 + length_in file 1) × (offset_in file 3 ≡ offset_in file 2 + length_in file 2)
        × (offset_in file 4 ≡ offset_in file 3 + length_in file 3) × (length file ≡ offset_in file 4 + length_in file 4)
    offsets =
        (o.first, o.next 0 (omega arith), o.next 1 (omega arith), o.next 2 (omega arith), o.next 3 (omega arith), o.last 4 refl)

    pub section_end : (k : ℕ) → k < sections → offset_in file k + length_in file k ≤ length file
    section_end =
        let all = offsets in
        each_section (λ k. offset_in file k + length_in file k ≤ length file)
        (omega arith) (omega arith) (omega arith) (omega arith) (omega arith)

    pub length-section_in : (k : ℕ) → k < sections → length (section_in file k) ≡ length_in file k
    unfolding section_in part
    length-section_in k h = simp (length-take, length-drop) (omega (arith, section_end k h))

  module _ (z : SizeRule file) where
    -- a section is as long as its entries
    pub length-entries : (k : ℕ) → k < sections → length_in file k ≡ nat_at entry_sizes k * count_in file k
    unfolding count_in
    length-entries k h =
        each_section (λ k. length_in file k % nat_at entry_sizes k ≡ 0 → length_in file k ≡ nat_at entry_sizes k * count_in file k)
        (λ e. omega arith) (λ e. omega arith) (λ e. omega arith) (λ e. omega arith) (λ e. omega arith) k h (z.whole k h)

    length_limit : (k : ℕ) → k < sections
        → (nat_at entry_sizes k * nat_at least_counts k ≤ length_in file k) × (length_in file k ≤ nat_at entry_sizes k * nat_at largest_counts k)
    length_limit k h =
        let c = z.count k h in
        rw (length-entries k h) (mul-le-mul_left (nat_at entry_sizes k) c.0, mul-le-mul_left (nat_at entry_sizes k) c.1)

    -- the longest section has 256 links of 12 bytes
    pub length_most : (k : ℕ) → k < sections → length_in file k ≤ 3072
    length_most =
        each_section (λ k. length_in file k ≤ 3072) (omega (arith, length_limit 0 (omega arith))) (omega (arith, length_limit 1 (omega arith)))
        (omega (arith, length_limit 2 (omega arith))) (omega (arith, length_limit 3 (omega arith))) (omega (arith, length_limit 4 (omega arith)))

    pub file_limits : OffsetRule file → (52 ≤ length file) × (length file ≤ 4492)
    file_limits o =
        omega (
          arith,
          offsets o,
          length_limit 0 (omega arith),
          length_limit 1 (omega arith),
          length_limit 2 (omega arith),
          length_limit 3 (omega arith),
          length_limit 4 (omega arith),
        )
