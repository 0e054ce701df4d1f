-- The same as a proposition: "Plan file" word by word, where each number stands in a file, by literal places. Format.antt has it as the
-- plan that a file holds; Laws/Places shows that they agree.
use Rattle.std.specs.Prelude.{◌≡◌, List, [], ◌∷◌, ℕ, ◌+◌, ◌*◌, ◌/◌, ◌<◌, pos}
use Rattle.words.specs.Word.{word, signed_word}
use Rattle.plan.specs.Lists.{nat_at, int_at}
use Rattle.plan.specs.Format.{offset_in, length_in, count_in, plan_in}
use Rattle.plan.specs.declared.Plan.{Plan}

-- "Header, 44 bytes: horizon .., then five pairs of offset and length", of any file
pub record HeaderPlaces (file : List ℕ) : Type 0 where
  pub horizon : (plan_in file).horizon ≡ word file 0
  pub offset : (section : ℕ) → offset_in file section ≡ word file (4 + 8 * section)
  pub size : (section : ℕ) → length_in file section ≡ word file (8 + 8 * section)
  -- how many entries a section has, by the length of an entry; refusal 3 speaks of it
  pub count : (section : ℕ) → count_in file section ≡ word file (8 + 8 * section) / nat_at (8 ∷ 4 ∷ 20 ∷ 12 ∷ 12 ∷ []) section

-- where each number of a file stands whose sections are of the right size: the counts by the lengths, and the entries behind their sections'
-- offsets
pub record EntryPlaces (file : List ℕ) (p : Plan) : Type 0 where
  pub n : word file 8 ≡ 8 * p.counts.n
  pub m : word file 16 ≡ 4 * p.counts.m
  pub k : word file 24 ≡ 20 * p.counts.k
  pub links : word file 32 ≡ 12 * p.counts.links
  pub commands : word file 40 ≡ 12 * p.counts.commands
  -- "signed start ..; quantum"
  pub starts : (i : ℕ) → i < p.counts.n → int_at p.integrators.starts i ≡ signed_word file (word file 4 + 8 * i)
  pub quanta : (i : ℕ) → i < p.counts.n → int_at p.integrators.quanta i ≡ pos (word file (word file 4 + 8 * i + 4))
  -- "signed first value"
  pub firsts : (j : ℕ) → j < p.counts.m → int_at p.inputs.firsts j ≡ signed_word file (word file 12 + 4 * j)
  -- "kind, A, B, signed lo, signed hi"
  pub kinds : (j : ℕ) → j < p.counts.k → nat_at p.nodes.kinds j ≡ word file (word file 20 + 20 * j)
  pub a : (j : ℕ) → j < p.counts.k → nat_at p.nodes.a j ≡ word file (word file 20 + 20 * j + 4)
  pub b : (j : ℕ) → j < p.counts.k → nat_at p.nodes.b j ≡ word file (word file 20 + 20 * j + 8)
  pub lows : (j : ℕ) → j < p.counts.k → int_at p.nodes.lows j ≡ signed_word file (word file 20 + 20 * j + 12)
  pub highs : (j : ℕ) → j < p.counts.k → int_at p.nodes.highs j ≡ signed_word file (word file 20 + 20 * j + 16)
  -- "target integrator, source, signed coefficient"
  pub targets : (e : ℕ) → e < p.counts.links → nat_at p.links.targets e ≡ word file (word file 28 + 12 * e)
  pub sources : (e : ℕ) → e < p.counts.links → nat_at p.links.sources e ≡ word file (word file 28 + 12 * e + 4)
  pub coefficients : (e : ℕ) → e < p.counts.links → int_at p.links.coefficients e ≡ signed_word file (word file 28 + 12 * e + 8)
  -- "tick .., input number .., signed value"
  pub ticks : (e : ℕ) → e < p.counts.commands → nat_at p.commands.ticks e ≡ word file (word file 36 + 12 * e)
  pub inputs : (e : ℕ) → e < p.counts.commands → nat_at p.commands.inputs e ≡ word file (word file 36 + 12 * e + 4)
  pub values : (e : ℕ) → e < p.counts.commands → int_at p.commands.values e ≡ signed_word file (word file 36 + 12 * e + 8)
