-- Proof: the promises about the numbers that all others speak in. Assumes nothing.
use Rattle.std.specs.Prelude.{◌≡◌, refl, suc, ◌+◌}
use Rattle.std.proofs.Common.{arith}
use Rattle.integers.proofs.Laws.Division.{floor_law}
use Rattle.integers.proofs.Laws.Range.{limited_same, limited-low, limited-high}
use Rattle.bitset.specs.Counts.{count_of}
use Rattle.words.specs.Word.{word}
use Rattle.words.proofs.Laws.Reading.{word_bytes}
use Rattle.words.proofs.Laws.Signs.{signed_low, signed_high}
use Rattle.calls.specs.Promises.Numbers.{NumbersMean}

pub numbers_mean : NumbersMean
unfolding count_of
numbers_mean =
    record {
      little_endian = word_bytes;
      not_negative = λ s at h. signed_low 4 (word s at) h;
      negative = λ s at h. signed_high 4 (word s at) h;
      largest = refl;
      no_tick = refl;
      horizon = refl;
      coefficient = refl;
      budget = refl;
      listing_budget_lem = refl;
      header = refl;
      entries = refl;
      section_count = refl;
      section_order = refl;
      least_counts_lem = refl;
      counts = refl;
      longest = refl;
      kinds = refl;
      listing_input_lem = refl;
      event = refl;
      floor_below = λ v. (floor_law v 65536 (omega arith)).0;
      floor_above = λ v. (floor_law v 65536 (omega arith)).1;
      limited_inside = limited_same;
      limited-below = limited-low;
      limited-above = limited-high;
      count_none = λ test. refl;
      count-one = λ test n e. let next : n + 1 ≡ suc n = omega arith in rw (next, e) (omega arith);
      count_other = λ test n e. let next : n + 1 ≡ suc n = omega arith in rw (next, e);
    }
