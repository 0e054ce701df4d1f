-- Model of the code: the value of every source in one array, and how the code works it out. What it is by document 01: Laws/SourceValues.
use Rattle.std.specs.Prelude.{true, cond, List, ℕ, ◌+◌, ◌-◌, ◌≤◌, ◌<◌, ℤ, pos, ltb, set}
use Rattle.integers.specs.Parts.{∣◌∣}
use Rattle.bitset.specs.Mask.{each}
use Rattle.plan.specs.Numbers.{M, most_integrators, most_inputs, most_nodes, source_width}
use Rattle.plan.specs.Lists.{nat_at, int_at, row}
use Rattle.plan.specs.declared.Nodes.{Nodes}
use Rattle.plan.specs.declared.Plan.{Plan}
use Rattle.machine.specs.Values.{node_value, value_of}

-- the value of each source at its source number, with the outputs q and the input values u
unfoldable pub values_of : Plan → List ℤ → List ℤ → List ℤ
values_of p q u = row (pos 0) source_width (p.counts.n + p.counts.m + p.counts.k) (value_of p q u)

-- integrators and inputs alone
unfoldable pub output_and_input_values : (n m : ℕ) (q u : List ℤ) → List ℤ
output_and_input_values n m q u = row (pos 0) source_width (n + m) (λ i. cond (ltb i n) (int_at q i) (int_at u (i - n)))

-- the outputs and the input values, read out of the values of sources
unfoldable pub outputs_in : (n : ℕ) (values : List ℤ) → List ℤ
outputs_in n values = row (pos 0) most_integrators n (λ i. int_at values i)

unfoldable pub inputs_in : (n m : ℕ) (values : List ℤ) → List ℤ
inputs_in n m values = row (pos 0) most_inputs m (λ j. int_at values (n + j))

module _ (nodes : Nodes) (base : ℕ) where
  -- the value of node j by the values of its operands
  unfoldable pub node_from : ℕ → List ℤ → ℤ
  node_from j values =
      node_value (nat_at nodes.kinds j) (int_at values (nat_at nodes.a j)) (int_at values (nat_at nodes.b j)) (int_at nodes.lows j) (int_at nodes.highs j)

  -- node j worked out
  unfoldable pub node_step : ℕ → List ℤ → List ℤ
  node_step j values = set values (base + j) (node_from j values)

-- what that asks: operands that are sources, and no value beyond ±M
pub record NodesReady (nodes : Nodes) (values : List ℤ) (base k : ℕ) : Type 0 where
  pub few : k ≤ most_nodes
  pub room : base + k ≤ source_width
  pub a-below : (j : ℕ) → j < k → nat_at nodes.a j < source_width
  pub b-below : (j : ℕ) → j < k → nat_at nodes.b j < source_width
  pub low : (j : ℕ) → j < k → ∣ int_at nodes.lows j ∣ ≤ M
  pub high : (j : ℕ) → j < k → ∣ int_at nodes.highs j ∣ ≤ M
  pub sized : (i : ℕ) → ∣ int_at values i ∣ ≤ M

module _ (p : Plan) (q u : List ℤ) where
  -- integrators and inputs alone, before the nodes are worked out
  abbrev pub first_values : List ℤ
  first_values = output_and_input_values p.counts.n p.counts.m q u

  -- and every node worked out, in node order
  abbrev pub values_by : List ℤ
  values_by = each (node_step p.nodes (p.counts.n + p.counts.m)) (λ _. true) p.counts.k first_values

  -- what that asks
  pub record SourcesReady : Type 0 where
    pub n : p.counts.n ≤ most_integrators
    pub m : p.counts.m ≤ most_inputs
    pub nodes : NodesReady p.nodes first_values (p.counts.n + p.counts.m) p.counts.k
