-- The same as a proposition: the rules of "Plan file", which Tests.antt has as tests, in document 01's words, and the list of them by
-- refusal number. Laws/FileTests and Laws/PlanTests show that each test means its rule.
use Rattle.std.specs.Prelude.{◌≡◌, ◌⊎◌, List, [], ◌∷◌, ℕ, suc, ◌+◌, ◌%◌, ◌≤◌, ◌<◌, ℤ, pos, neg_ℤ, ◌≤ℤ◌, length, get_or}
use Rattle.plan.specs.Numbers.{M, largest_coefficient, largest_horizon, sections, entry_sizes, least_counts, largest_counts, header_bytes, section_integrators, kind_product, kind_limit, kind_comparison}
use Rattle.plan.specs.Lists.{nat_at, int_at}
use Rattle.plan.specs.Format.{offset_in, length_in}
use Rattle.plan.specs.Format.{count_in, plan_in}
use Rattle.plan.specs.Tests.{count_list}
use Rattle.plan.specs.declared.Plan.{Plan}

-- a number lies within ±b
abbrev pub Within : ℕ → ℤ → Type 0
Within b z = (neg_ℤ (pos b) ≤ℤ z) × (z ≤ℤ pos b)

-- a count is inside the limits of a section
abbrev pub CountRule : ℕ → ℕ → Type 0
CountRule section count = (nat_at least_counts section ≤ count) × (count ≤ nat_at largest_counts section)

-- "Strictly ascending by" xs, "then" ys: entry e stands above its predecessor
abbrev pub AscendsAt : List ℕ → List ℕ → ℕ → Type 0
AscendsAt xs ys e = (before : ℕ) → suc before ≡ e → (nat_at xs before < nat_at xs e) ⊎ ((nat_at xs before ≡ nat_at xs e) × (nat_at ys before < nat_at ys e))

module _ (file : List ℕ) where
  pub record OffsetRule : Type 0 where
    pub first : offset_in file section_integrators ≡ header_bytes
    pub next : (section : ℕ) → suc section < sections → offset_in file (suc section) ≡ offset_in file section + length_in file section
    pub last : (section : ℕ) → suc section ≡ sections → length file ≡ offset_in file section + length_in file section

  pub record SizeRule : Type 0 where
    pub whole : (section : ℕ) → section < sections → length_in file section % nat_at entry_sizes section ≡ 0
    pub count : (section : ℕ) → section < sections → CountRule section (count_in file section)

module _ (p : Plan) where
  abbrev pub HorizonRule : Type 0
  HorizonRule = (1 ≤ p.horizon) × (p.horizon ≤ largest_horizon)

  -- the counts of a plan that comes in no file
  abbrev pub CountsRule : Type 0
  CountsRule = (section : ℕ) → section < sections → CountRule section (nat_at (count_list p) section)

  pub record IntegratorRule (i : ℕ) : Type 0 where
    pub start : Within M (int_at p.integrators.starts i)
    pub least : pos 1 ≤ℤ int_at p.integrators.quanta i
    pub most : int_at p.integrators.quanta i ≤ℤ pos M

  abbrev pub InputRule : ℕ → Type 0
  InputRule j = Within M (int_at p.inputs.firsts j)

  -- "A and B, where used, name integrators, inputs or lower-numbered nodes": the sources below the node's own number
  abbrev pub Below : ℕ → ℕ → Type 0
  Below j source = source < p.counts.n + p.counts.m + j

  pub record NodeRule (j : ℕ) : Type 0 where
    pub kind : nat_at p.nodes.kinds j ≤ kind_comparison
    pub a-below : Below j (nat_at p.nodes.a j)
    -- "B is 0 and names nothing" in kind 2; the others use it
    pub b-below : (nat_at p.nodes.kinds j ≡ kind_limit → ⊥) → Below j (nat_at p.nodes.b j)
    pub unused : nat_at p.nodes.kinds j ≡ kind_limit → nat_at p.nodes.b j ≡ 0
    -- kinds 0 and 1 "with lo and hi 0"
    pub no_limits : nat_at p.nodes.kinds j ≤ kind_product → (int_at p.nodes.lows j ≡ pos 0) × (int_at p.nodes.highs j ≡ pos 0)
    -- "For kinds 2 and 3 lo and hi lie within ±M."
    pub limits : kind_limit ≤ nat_at p.nodes.kinds j → Within M (int_at p.nodes.lows j) × Within M (int_at p.nodes.highs j)
    -- kind 2 is "a limited to lo..hi, lo ≤ hi"
    pub order : nat_at p.nodes.kinds j ≡ kind_limit → int_at p.nodes.lows j ≤ℤ int_at p.nodes.highs j

  pub record LinkRule (e : ℕ) : Type 0 where
    pub target : nat_at p.links.targets e < p.counts.n
    pub source : nat_at p.links.sources e < p.counts.n + p.counts.m + p.counts.k
    pub nonzero : int_at p.links.coefficients e ≡ pos 0 → ⊥
    pub coefficient : Within largest_coefficient (int_at p.links.coefficients e)
    pub order : AscendsAt p.links.targets p.links.sources e

  pub record CommandRule (e : ℕ) : Type 0 where
    pub least : 1 ≤ nat_at p.commands.ticks e
    pub most : nat_at p.commands.ticks e ≤ p.horizon
    pub input : nat_at p.commands.inputs e < p.counts.m
    pub value : Within M (int_at p.commands.values e)
    pub order : AscendsAt p.commands.ticks p.commands.inputs e

  -- "its plan keeps all rules above"
  pub record PlanRules : Type 0 where
    pub counts : CountsRule
    pub horizon : HorizonRule
    pub integrators : (i : ℕ) → i < p.counts.n → IntegratorRule i
    pub inputs : (j : ℕ) → j < p.counts.m → InputRule j
    pub nodes : (j : ℕ) → j < p.counts.k → NodeRule j
    pub links : (e : ℕ) → e < p.counts.links → LinkRule e
    pub commands : (e : ℕ) → e < p.counts.commands → CommandRule e

module _ (file : List ℕ) where
  -- The rules by refusal number, 1 to 9; the first stands for number 0 and asks nothing. Each is asked of an entry; rules 1 to 4 have one,
  -- number 0.
  abbrev pub rules : List (ℕ → Type 0)
  rules =
      (λ _. Unit {0})
      ∷ (λ _. header_bytes ≤ length file)
      ∷ (λ _. OffsetRule file)
      ∷ (λ _. SizeRule file)
      ∷ (λ _. HorizonRule (plan_in file))
      ∷ IntegratorRule (plan_in file)
      ∷ InputRule (plan_in file)
      ∷ NodeRule (plan_in file)
      ∷ LinkRule (plan_in file)
      ∷ CommandRule (plan_in file)
      ∷ []

  -- how many entries each is asked of
  abbrev pub rule_entries : List ℕ
  rule_entries =
      let p = plan_in file in
      0 ∷ 1 ∷ 1 ∷ 1 ∷ 1 ∷ p.counts.n ∷ p.counts.m ∷ p.counts.k ∷ p.counts.links ∷ p.counts.commands ∷ []

  -- entry e keeps the rule of a refusal number, and every entry keeps it
  abbrev pub Rule : ℕ → ℕ → Type 0
  Rule number e = get_or rules number (λ _. Unit {0}) e

  abbrev pub Holds : ℕ → Type 0
  Holds number = (e : ℕ) → e < nat_at rule_entries number → Rule number e

-- what number and entry mean, by the rules as propositions
pub record Answered (file : List ℕ) (number entry : ℕ) : Type 0 where
  pub known : number ≤ 9
  -- number 0: every entry keeps every rule, and the entry is 0
  pub accepts : number ≡ 0 → ((rule : ℕ) → Holds file rule) × (entry ≡ 0)
  -- any other: the rules of lower numbers hold; the entry is one of its rule's, those below it keep the rule, and it breaks it
  pub earlier : (rule : ℕ) → rule < number → Holds file rule
  pub there : 0 < number → entry < nat_at (rule_entries file) number
  pub lowest : (e : ℕ) → e < entry → Rule file number e
  pub broken : 0 < number → Rule file number entry → ⊥
