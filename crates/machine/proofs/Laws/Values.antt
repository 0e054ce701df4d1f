-- Laws: the values of sources: integrators give their outputs, inputs their values, and a node what its kind makes of the values of A and
-- B; and the rate that an integrator's links make of them. Assumes nothing.
use Rattle.std.specs.Prelude.{◌≡◌, List, ℤ, pos, neg_ℤ, ◌+ℤ◌, ◌-ℤ◌, ◌*ℤ◌, ◌≤ℤ◌, ◌<ℤ◌}
use Rattle.std.proofs.Math.Path.{refl}
use Rattle.std.proofs.Common.{sym, ◌∙◌}
use Prim.Native.Nat.{ℕ, suc, ◌+◌, ◌≤◌, ◌<◌}
use native.Mathlib.Omega.{arith}
use Rattle.std.proofs.Math.IntN.{+ℤ_idr}
use borrow.Author.Tests.{eq-eqb, ne_eqb}
use Rattle.integers.specs.Division.{floor65536}
use Rattle.integers.proofs.Laws.Division.{floor_law}
use Rattle.integers.proofs.Laws.Order.{le_z_true, le_z_false}
use Rattle.integers.specs.Range.{limited}
use Rattle.plan.specs.Numbers.{M}
use Rattle.plan.specs.Lists.{nat_at, int_at}
use Rattle.plan.specs.Rules.{PlanRules}
use Rattle.plan.specs.declared.Plan.{Plan}
use Rattle.machine.specs.Values.{node_value, value_with, value_of, sum_over, rate_of}
use Rattle.machine.proofs.Laws.Inputs.{output-value, input-value}
use Rattle.machine.proofs.Laws.NodeOrder.{settled_at, node_at_lem}

module _ (p : Plan) (q u : List ℤ) where
  -- a source below node j's own number has its value once j nodes are worked out
  pub value-settled : (j i : ℕ) → j ≤ p.counts.k → i < p.counts.n + p.counts.m + j → value_of p q u i ≡ value_with p q u j i
  unfolding value_of value_with
  value-settled j i h l = settled_at (p.counts.n + p.counts.m) (value_with p q u) _ (λ j i. refl) j p.counts.k i h l

  pub integrator-value : (i : ℕ) → i < p.counts.n → value_of p q u i ≡ int_at q i
  integrator-value i h = value-settled 0 i (omega arith) (omega arith) ∙ output-value p q u i h

  pub input-source : (j : ℕ) → j < p.counts.m → value_of p q u (p.counts.n + j) ≡ int_at u j
  input-source j h = value-settled 0 (p.counts.n + j) (omega arith) (omega arith) ∙ input-value p q u j h

  -- ---- the rate: the sum over an integrator's own links, by 65,536, rounded towards minus infinity
  pub sum-none : (i : ℕ) → sum_over p q u i 0 ≡ pos 0
  unfolding sum_over
  sum-none i = refl

  pub sum-own : (i e : ℕ) → nat_at p.links.targets e ≡ i
      → sum_over p q u i (e + 1) ≡ sum_over p q u i e +ℤ int_at p.links.coefficients e *ℤ value_of p q u (nat_at p.links.sources e)
  unfolding sum_over
  sum-own i e own = let next : e + 1 ≡ suc e = omega arith in rw (next, eq-eqb (nat_at p.links.targets e) i own)

  pub sum_other : (i e : ℕ) → (nat_at p.links.targets e ≡ i → ⊥) → sum_over p q u i (e + 1) ≡ sum_over p q u i e
  unfolding sum_over
  sum_other i e other =
      let next : e + 1 ≡ suc e = omega arith in rw (next, ne_eqb (nat_at p.links.targets e) i other) (+ℤ_idr (sum_over p q u i e))

  pub rate_floor : (i : ℕ)
      → ((pos 65536 *ℤ rate_of p q u i) ≤ℤ sum_over p q u i p.counts.links) × (sum_over p q u i p.counts.links <ℤ (pos 65536 *ℤ (rate_of p q u i +ℤ pos 1)))
  unfolding rate_of
  rate_floor i = floor_law (sum_over p q u i p.counts.links) 65536 (omega arith)

  -- ---- nodes, by the plan's rules
  module _ (rules : PlanRules p) (j : ℕ) (h : j < p.counts.k) where
    abbrev own : ℕ
    own = p.counts.n + p.counts.m + j

    abbrev a : ℤ
    a = value_of p q u (nat_at p.nodes.a j)

    abbrev b : ℤ
    b = value_of p q u (nat_at p.nodes.b j)

    -- what its kind makes of the values of A and B as they are when it is worked out
    pub worked_out : value_of p q u own
        ≡ node_value (nat_at p.nodes.kinds j) (value_with p q u j (nat_at p.nodes.a j)) (value_with p q u j (nat_at p.nodes.b j))
        (int_at p.nodes.lows j) (int_at p.nodes.highs j)
    unfolding value_of value_with
    worked_out = node_at_lem (p.counts.n + p.counts.m) (value_with p q u) _ (λ j i. refl) j p.counts.k h

    left : value_with p q u j (nat_at p.nodes.a j) ≡ a
    left = sym (value-settled j (nat_at p.nodes.a j) (omega arith) (rules.nodes j h).a-below)

    right : (nat_at p.nodes.kinds j ≡ 2 → ⊥) → value_with p q u j (nat_at p.nodes.b j) ≡ b
    right n = sym (value-settled j (nat_at p.nodes.b j) (omega arith) ((rules.nodes j h).b-below n))

    pub difference_node : nat_at p.nodes.kinds j ≡ 0 → value_of p q u own ≡ limited (neg_ℤ (pos M)) (pos M) (a -ℤ b)
    unfolding node_value
    difference_node e = worked_out ∙ rw (left, right (λ t. omega arith), e)

    pub product_node : nat_at p.nodes.kinds j ≡ 1 → value_of p q u own ≡ limited (neg_ℤ (pos M)) (pos M) (floor65536 (a *ℤ b))
    unfolding node_value
    product_node e = worked_out ∙ rw (left, right (λ t. omega arith), e)

    pub limit_node : nat_at p.nodes.kinds j ≡ 2 → value_of p q u own ≡ limited (int_at p.nodes.lows j) (int_at p.nodes.highs j) a
    unfolding node_value
    limit_node e = worked_out ∙ rw (left, e)

    pub high-node : nat_at p.nodes.kinds j ≡ 3 → b ≤ℤ a → value_of p q u own ≡ int_at p.nodes.highs j
    unfolding node_value
    high-node e le = worked_out ∙ rw (left, right (λ t. omega arith), e, (le_z_true b a).1 le)

    pub low-node : nat_at p.nodes.kinds j ≡ 3 → a <ℤ b → value_of p q u own ≡ int_at p.nodes.lows j
    unfolding node_value
    low-node e lt = worked_out ∙ rw (left, right (λ t. omega arith), e, (le_z_false b a).1 lt)
