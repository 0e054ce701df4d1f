-- Promise: of the numbers that all others speak in, words, signs, M, never, document 01's other numbers, division, limits, counts. Statements,
-- with document 01's numbers as they are written there; the proofs stand in Proofs.
use Rattle.std.specs.Prelude.{◌≡◌, Bool, true, false, List, [], ◌∷◌, ℕ, ◌+◌, ◌-◌, ◌*◌, ◌^◌, ◌≤◌, ◌<◌, ℤ, pos, ◌+ℤ◌, ◌-ℤ◌, ◌*ℤ◌, ◌≤ℤ◌, ◌<ℤ◌}
use Rattle.integers.specs.Division.{floor65536}
use Rattle.integers.specs.Range.{limited}
use Rattle.bitset.specs.Counts.{count_of}
use Rattle.words.specs.Word.{word, signed_word}
use Rattle.plan.specs.Numbers.{M, never, largest_horizon, largest_coefficient, largest_budget, listing_budget, largest_counts, entry_sizes, header_bytes}
use Rattle.plan.specs.Numbers.{sections, least_counts, longest_file, listing_input, event_bytes}
use Rattle.plan.specs.Numbers.{section_integrators, section_inputs, section_nodes, section_links, section_commands}
use Rattle.plan.specs.Numbers.{kind_difference, kind_product, kind_limit, kind_comparison}
use Rattle.plan.specs.Lists.{nat_at}

pub record NumbersMean : Type 0 where
  -- "All numbers in files and events are little_endian, 32 bits wide"
  pub little_endian : (s : List ℕ) (at : ℕ)
      → word s at ≡ nat_at s at + 256 * nat_at s (at + 1) + 65536 * nat_at s (at + 2) + 16777216 * nat_at s (at + 3)
  -- "'signed' means two's complement"
  pub not_negative : (s : List ℕ) (at : ℕ) → word s at < 2 ^ 31 → signed_word s at ≡ pos (word s at)
  pub negative : (s : List ℕ) (at : ℕ) → 2 ^ 31 ≤ word s at → signed_word s at ≡ pos (word s at) -ℤ pos (2 ^ 32)
  -- "Let M = 2^30 = 1,073,741,824."
  pub largest : M ≡ 2 ^ 30
  -- never, above every tick
  pub no_tick : never ≡ 2 ^ 32 - 1
  -- "horizon (a tick, 1 to 2,000,000,000)"; "within ±16,777,216"
  pub horizon : largest_horizon ≡ 2000000000
  pub coefficient : largest_coefficient ≡ 16777216
  -- "A run's budget is above 1,024"; "runs lazily with budget 64"
  pub budget : largest_budget ≡ 1024
  pub listing_budget_lem : listing_budget ≡ 64
  -- "Header, 44 bytes"; "Sections in order" with the bytes of an entry, the least and the largest counts; the file that has the most of each
  pub header : header_bytes ≡ 44
  pub entries : entry_sizes ≡ 8 ∷ 4 ∷ 20 ∷ 12 ∷ 12 ∷ []
  pub section_count : sections ≡ 5
  pub section_order : section_integrators ∷ section_inputs ∷ section_nodes ∷ section_links ∷ section_commands ∷ [] ≡ 0 ∷ 1 ∷ 2 ∷ 3 ∷ 4 ∷ []
  pub least_counts_lem : least_counts ≡ 1 ∷ 0 ∷ 0 ∷ 0 ∷ 0 ∷ []
  pub counts : largest_counts ≡ 32 ∷ 8 ∷ 16 ∷ 256 ∷ 64 ∷ []
  pub longest : longest_file ≡ 44 + 8 * 32 + 4 * 8 + 20 * 16 + 12 * 256 + 12 * 64
  -- "Node kinds", 0 to 3
  pub kinds : kind_difference ∷ kind_product ∷ kind_limit ∷ kind_comparison ∷ [] ≡ 0 ∷ 1 ∷ 2 ∷ 3 ∷ []
  -- "reads at most 4,493 bytes of standard input"
  pub listing_input_lem : listing_input ≡ 4493
  -- "12 bytes each: tick, source, signed value"
  pub event : event_bytes ≡ 12
  -- "Division by 65,536 is written floor(..), rounding towards minus infinity."
  pub floor_below : (v : ℤ) → (pos 65536 *ℤ floor65536 v) ≤ℤ v
  pub floor_above : (v : ℤ) → v <ℤ (pos 65536 *ℤ (floor65536 v +ℤ pos 1))
  -- limited to lo..hi, and so clipped to ±M
  pub limited_inside : (lo hi z : ℤ) → lo ≤ℤ z → z ≤ℤ hi → limited lo hi z ≡ z
  pub limited-below : (lo hi z : ℤ) → lo ≤ℤ hi → z ≤ℤ lo → limited lo hi z ≡ lo
  pub limited-above : (lo hi z : ℤ) → lo ≤ℤ hi → hi ≤ℤ z → limited lo hi z ≡ hi
  -- how many below n pass a test
  pub count_none : (test : ℕ → Bool) → count_of test 0 ≡ 0
  pub count-one : (test : ℕ → Bool) (n : ℕ) → test n ≡ true → count_of test (n + 1) ≡ count_of test n + 1
  pub count_other : (test : ℕ → Bool) (n : ℕ) → test n ≡ false → count_of test (n + 1) ≡ count_of test n
