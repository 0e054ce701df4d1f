-- Binding definition: "unused entries are 0", of an array those from its count on; as tests, and the same as propositions. Laws/Entries
-- shows that the tests mean these.
use Rattle.std.specs.Prelude.{◌≡◌, Bool, ◌&&◌, List, ℕ, ◌≤◌, ℤ, pos, eqb, drop}
use Rattle.integers.specs.Parts.{∣◌∣}
use Rattle.plan.specs.Lists.{nat_at, int_at, all}
use Rattle.plan.specs.declared.Plan.{Plan}

-- the entries of an array from a count on are 0
abbrev pub NatsZeroFrom : ℕ → List ℕ → Type 0
NatsZeroFrom count xs = (i : ℕ) → count ≤ i → nat_at xs i ≡ 0

abbrev pub IntsZeroFrom : ℕ → List ℤ → Type 0
IntsZeroFrom count xs = (i : ℕ) → count ≤ i → int_at xs i ≡ pos 0

-- those of a plan
pub record PlanUnusedZero (p : Plan) : Type 0 where
  pub starts : IntsZeroFrom p.counts.n p.integrators.starts
  pub quanta : IntsZeroFrom p.counts.n p.integrators.quanta
  pub firsts : IntsZeroFrom p.counts.m p.inputs.firsts
  pub kinds : NatsZeroFrom p.counts.k p.nodes.kinds
  pub a : NatsZeroFrom p.counts.k p.nodes.a
  pub b : NatsZeroFrom p.counts.k p.nodes.b
  pub lows : IntsZeroFrom p.counts.k p.nodes.lows
  pub highs : IntsZeroFrom p.counts.k p.nodes.highs
  pub targets : NatsZeroFrom p.counts.links p.links.targets
  pub sources : NatsZeroFrom p.counts.links p.links.sources
  pub coefficients : IntsZeroFrom p.counts.links p.links.coefficients
  pub ticks : NatsZeroFrom p.counts.commands p.commands.ticks
  pub inputs : NatsZeroFrom p.counts.commands p.commands.inputs
  pub values : IntsZeroFrom p.counts.commands p.commands.values

-- ---- the tests
unfoldable pub nats_zero_from : ℕ → List ℕ → Bool
nats_zero_from count xs = all (λ x. eqb x 0) (drop count xs)

unfoldable pub ints_zero_from : ℕ → List ℤ → Bool
ints_zero_from count xs = all (λ z. eqb ∣ z ∣ 0) (drop count xs)

unfoldable pub plan_unused_zero : Plan → Bool
plan_unused_zero p =
    ints_zero_from p.counts.n p.integrators.starts && ints_zero_from p.counts.n p.integrators.quanta && ints_zero_from p.counts.m p.inputs.firsts
    && nats_zero_from p.counts.k p.nodes.kinds && nats_zero_from p.counts.k p.nodes.a && nats_zero_from p.counts.k p.nodes.b
    && ints_zero_from p.counts.k p.nodes.lows && ints_zero_from p.counts.k p.nodes.highs
    && nats_zero_from p.counts.links p.links.targets && nats_zero_from p.counts.links p.links.sources && ints_zero_from p.counts.links p.links.coefficients
    && nats_zero_from p.counts.commands p.commands.ticks && nats_zero_from p.counts.commands p.commands.inputs && ints_zero_from p.counts.commands p.commands.values
