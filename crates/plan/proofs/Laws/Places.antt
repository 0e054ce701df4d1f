-- Laws: where each number of a plan stands in a file that keeps the rules of a file. Assumes nothing.
use Rattle.std.specs.Prelude.{◌≡◌, refl, List, ℕ, ◌+◌, ◌*◌, ◌<◌, pos, get_or}
use Rattle.std.proofs.Common.{sym, ap, ◌∙◌, arith}
use Rattle.std.proofs.Math.Nat.{mul-le-mul_left}
use Rattle.words.specs.Word.{signed_of, word}
use Rattle.words.proofs.Laws.Reading.{number-part}
use Rattle.plan.specs.Numbers.{sections, entry_sizes, largest_counts}
use Rattle.plan.specs.Lists.{nat_at}
use Rattle.plan.specs.Format.{horizon_in, offset_in, length_in, count_in, part}
use Rattle.plan.specs.Format.{section_in, column_of, column_in, plan_in}
use Rattle.plan.specs.Rules.{SizeRule}
use Rattle.plan.specs.Places.{HeaderPlaces, EntryPlaces}
use Rattle.plan.proofs.Laws.Rows.{row_at}
use Rattle.plan.proofs.Laws.Layout.{entry_widths, size_width}
use Rattle.plan.proofs.Laws.Parts.{length-entries}

module _ (file : List ℕ) (z : SizeRule file) where
  -- entry i of column c is what stands there in its section
  pub column_at : {A : Type 0} (unused : A) (read : List ℕ → ℕ → A) (k i : ℕ) → k < sections → i < count_in file k → (c : ℕ)
      → get_or (column_in unused read file k c) i unused ≡ read (section_in file k) (nat_at entry_sizes k * i + 4 * c)
  unfolding column_of column_in
  column_at unused read k i h l c =
      let most = (z.count k h).1 in
      row_at unused (nat_at largest_counts k) (count_in file k) (λ j. read (section_in file k) (nat_at entry_sizes k * j + 4 * c)) i most l

  -- a word of an entry stands in the file as far behind the section's offset
  section_word : (k i c : ℕ) → k < sections → i < count_in file k → c < nat_at entry_widths k
      → word (section_in file k) (nat_at entry_sizes k * i + 4 * c) ≡ word file (offset_in file k + (nat_at entry_sizes k * i + 4 * c))
  unfolding section_in part
  section_word k i c h l g =
      number-part 4 file (offset_in file k) (length_in file k) (nat_at entry_sizes k * i + 4 * c)
      (omega (arith, length-entries file z k h, size_width k h, mul-le-mul_left (nat_at entry_sizes k) l))

  -- so entry i of column c, by the word at its place
  pub column_place : {A : Type 0} (unused : A) (decode : ℕ → A) (k c i at : ℕ) → k < sections → i < count_in file k → c < nat_at entry_widths k
      → at ≡ offset_in file k + (nat_at entry_sizes k * i + 4 * c)
      → get_or (column_in unused (λ s a. decode (word s a)) file k c) i unused ≡ decode (word file at)
  column_place unused decode k c i at h l g e =
      column_at unused (λ s a. decode (word s a)) k i h l c ∙ ap decode (section_word k i c h l g ∙ ap (word file) (sym e))

-- ---- in document 01's words
pub header-places : (file : List ℕ) → HeaderPlaces file
unfolding plan_in horizon_in offset_in length_in count_in
header-places file = record { horizon = refl; offset = λ k. refl; size = λ k. refl; count = λ k. refl }

pub entry-places : (file : List ℕ) → SizeRule file → EntryPlaces file (plan_in file)
unfolding plan_in offset_in length_in
entry-places file z =
    record {
      n = length-entries file z 0 (omega arith);
      m = length-entries file z 1 (omega arith);
      k = length-entries file z 2 (omega arith);
      links = length-entries file z 3 (omega arith);
      commands = length-entries file z 4 (omega arith);
      starts = λ i h. column_place file z (pos 0) (signed_of 4) 0 0 i _ (omega arith) h (omega arith) (omega arith);
      quanta = λ i h. column_place file z (pos 0) pos 0 1 i _ (omega arith) h (omega arith) (omega arith);
      firsts = λ j h. column_place file z (pos 0) (signed_of 4) 1 0 j _ (omega arith) h (omega arith) (omega arith);
      kinds = λ j h. column_place file z 0 (λ w. w) 2 0 j _ (omega arith) h (omega arith) (omega arith);
      a = λ j h. column_place file z 0 (λ w. w) 2 1 j _ (omega arith) h (omega arith) (omega arith);
      b = λ j h. column_place file z 0 (λ w. w) 2 2 j _ (omega arith) h (omega arith) (omega arith);
      lows = λ j h. column_place file z (pos 0) (signed_of 4) 2 3 j _ (omega arith) h (omega arith) (omega arith);
      highs = λ j h. column_place file z (pos 0) (signed_of 4) 2 4 j _ (omega arith) h (omega arith) (omega arith);
      targets = λ e h. column_place file z 0 (λ w. w) 3 0 e _ (omega arith) h (omega arith) (omega arith);
      sources = λ e h. column_place file z 0 (λ w. w) 3 1 e _ (omega arith) h (omega arith) (omega arith);
      coefficients = λ e h. column_place file z (pos 0) (signed_of 4) 3 2 e _ (omega arith) h (omega arith) (omega arith);
      ticks = λ e h. column_place file z 0 (λ w. w) 4 0 e _ (omega arith) h (omega arith) (omega arith);
      inputs = λ e h. column_place file z 0 (λ w. w) 4 1 e _ (omega arith) h (omega arith) (omega arith);
      values = λ e h. column_place file z (pos 0) (signed_of 4) 4 2 e _ (omega arith) h (omega arith) (omega arith);
    }
