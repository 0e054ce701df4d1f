-- Binding definition: the rules of "Plan file" as tests, of the file's directory, of the counts, and of each entry of a plan. The limits of
-- an entry and its order are two tests. Rules.antt has the same rules as propositions.
use Rattle.std.specs.Prelude.{Bool, not, cond, ◌&&◌, ◌||◌, List, [], ◌∷◌, ℕ, ◌+◌, ◌-◌, ◌%◌, ℤ, pos, leb, ltb, eqb, length}
use Rattle.std.specs.Int.Signed.{le_z}
use Rattle.integers.specs.Parts.{∣◌∣}
use Rattle.integers.specs.Range.{within}
use Rattle.plan.specs.Numbers.{M, largest_coefficient, largest_horizon, sections, entry_sizes, least_counts, largest_counts, header_bytes, kind_product, kind_limit, kind_comparison}
use Rattle.plan.specs.Lists.{nat_at, int_at, every}
use Rattle.plan.specs.Format.{offset_in, length_in, required_offset, count_in}
use Rattle.plan.specs.declared.Plan.{Plan}

-- ---- the file
unfoldable pub long_enough : List ℕ → Bool
long_enough file = leb header_bytes (length file)

-- "The first offset is 44, each next offset is the previous offset plus length, the last section ends the file."
unfoldable pub offsets_kept : List ℕ → Bool
offsets_kept file = every (λ section. eqb (offset_in file section) (required_offset file section)) sections && eqb (length file) (required_offset file sections)

-- a count is inside its section's limits
unfoldable pub count_kept : ℕ → ℕ → Bool
count_kept section count = leb (nat_at least_counts section) count && leb count (nat_at largest_counts section)

-- a section is a whole number of entries, and their count is inside its limits
unfoldable pub sizes_kept : List ℕ → Bool
sizes_kept file = every (λ section. eqb (length_in file section % nat_at entry_sizes section) 0 && count_kept section (count_in file section)) sections

-- ---- the plan
-- "horizon (a tick, 1 to 2,000,000,000)"
unfoldable pub horizon_kept : ℕ → Bool
horizon_kept horizon = leb 1 horizon && leb horizon largest_horizon

-- The tests of one entry, on its own numbers.
-- "signed start within ±M; quantum 1 to M"
abbrev pub integrator_test : ℤ → ℤ → Bool
integrator_test start quantum = within M start && le_z (pos 1) quantum && le_z quantum (pos M)

-- The rule of a node's kind. A node's own source number is `own`, so "integrators, inputs or lower-numbered nodes" are the sources below it.
-- Kinds 0 and 1: "with lo and hi 0". Kind 2: "lo ≤ hi, B is 0 and names nothing". Kinds 2 and 3: "lo and hi lie within ±M".
unfoldable pub node_test : (own kind a b : ℕ) (lo hi : ℤ) → Bool
node_test own kind a b lo hi =
    ltb a own &&
    cond (leb kind kind_product) (ltb b own && eqb ∣ lo ∣ 0 && eqb ∣ hi ∣ 0)
    (within M lo && within M hi && cond (eqb kind kind_limit) (eqb b 0 && le_z lo hi) (eqb kind kind_comparison && ltb b own))

-- "target integrator, source, signed coefficient, not 0, within ±16,777,216", with n integrators and `all` sources
abbrev pub link_limits_test : (n all target source : ℕ) (coefficient : ℤ) → Bool
link_limits_test n all target source coefficient =
    ltb target n && ltb source all && not (eqb ∣ coefficient ∣ 0) && within largest_coefficient coefficient

-- "tick 1 to horizon, input number below m, signed value within ±M"
abbrev pub command_limits_test : (horizon m tick input : ℕ) (value : ℤ) → Bool
command_limits_test horizon m tick input value = leb 1 tick && leb tick horizon && ltb input m && within M value

-- a pair stands before the next pair: by the first number, then by the second
unfoldable pub pair_ascends : (first second nextFirst nextSecond : ℕ) → Bool
pair_ascends first second nextFirst nextSecond = ltb first nextFirst || (eqb first nextFirst && ltb second nextSecond)

-- "Strictly ascending by" xs, "then" ys: entry e stands above its predecessor, if it has one
abbrev pub ascends_at : List ℕ → List ℕ → ℕ → Bool
ascends_at xs ys e = eqb e 0 || pair_ascends (nat_at xs (e - 1)) (nat_at ys (e - 1)) (nat_at xs e) (nat_at ys e)

module _ (p : Plan) where
  -- the counts in the order of the sections
  unfoldable pub count_list : List ℕ
  count_list = p.counts.n ∷ p.counts.m ∷ p.counts.k ∷ p.counts.links ∷ p.counts.commands ∷ []

  unfoldable pub counts_kept : Bool
  counts_kept = every (λ section. count_kept section (nat_at count_list section)) sections

  unfoldable pub integrator_kept : ℕ → Bool
  integrator_kept i = integrator_test (int_at p.integrators.starts i) (int_at p.integrators.quanta i)

  -- "signed first value within ±M"
  unfoldable pub input_kept : ℕ → Bool
  input_kept j = within M (int_at p.inputs.firsts j)

  unfoldable pub node_kept : ℕ → Bool
  node_kept j =
      node_test (p.counts.n + p.counts.m + j) (nat_at p.nodes.kinds j) (nat_at p.nodes.a j) (nat_at p.nodes.b j) (int_at p.nodes.lows j) (int_at p.nodes.highs j)

  -- "Links may name any source."
  unfoldable pub link_limits_kept : ℕ → Bool
  link_limits_kept e =
      link_limits_test p.counts.n (p.counts.n + p.counts.m + p.counts.k) (nat_at p.links.targets e) (nat_at p.links.sources e) (int_at p.links.coefficients e)

  -- "Strictly ascending by target, then source."
  unfoldable pub link_ordered : ℕ → Bool
  link_ordered e = ascends_at p.links.targets p.links.sources e

  unfoldable pub command_limits_kept : ℕ → Bool
  command_limits_kept e = command_limits_test p.horizon p.counts.m (nat_at p.commands.ticks e) (nat_at p.commands.inputs e) (int_at p.commands.values e)

  -- "Strictly ascending by tick, then input."
  unfoldable pub command_ordered : ℕ → Bool
  command_ordered e = ascends_at p.commands.ticks p.commands.inputs e
