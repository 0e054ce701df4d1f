-- Laws: the array of the values of sources, for a plan that keeps its rules: working out the nodes in node order gives each source's value
-- by document 01, nodes that have theirs already may be left out, and no value is beyond ±M. Assumes nothing.
use Rattle.std.specs.Prelude.{◌≡◌, Bool, List, eqb, ℤ, pos, length}
use Rattle.std.proofs.Math.Path.{refl, ap₂}
use Rattle.std.proofs.Common.{sym, ◌∙◌, true≢false, eq-or-lt_of_le, arith, ext_get_or}
use Rattle.std.proofs.Math.Bool.{true, false, cond}
use Rattle.std.proofs.Math.Logic.{⊎_elim}
use Prim.Native.Nat.{ℕ, zero, suc, ◌+◌, ◌-◌, ◌≤◌, ◌<◌}
use Rattle.std.proofs.Math.Dec.{ltb}
use borrow.Author.Tests.{ltb-true, ltb-false, lt-ltb, eqb-true, eqb-false}
use Rattle.integers.specs.Parts.{∣◌∣}
use Rattle.bitset.specs.Mask.{each}
use Rattle.plan.specs.Numbers.{M}
use Rattle.plan.specs.Lists.{nat_at, int_at, row}
use Rattle.plan.specs.Rules.{NodeRule, PlanRules}
use Rattle.plan.proofs.Laws.CountLimits.{CountLimits, count-limits}
use Rattle.plan.proofs.Laws.TestMeanings.{within-size}
use Rattle.plan.proofs.Laws.Rows.{length_row, row_at, row_unused}
use Rattle.plan.proofs.Laws.Small.{node-limits}
use Rattle.plan.specs.declared.Plan.{Plan}
use Rattle.machine.specs.Values.{node_value, value_with, value_of}
use Rattle.machine.proofs.Laws.Sizes.{value-size}
use Rattle.machine.proofs.Laws.Values.{value-settled, worked_out}
use Rattle.values.specs.Sources.{values_of, output_and_input_values, node_from, node_step, NodesReady}
use Rattle.values.proofs.Laws.NodeSteps.{step-length, step-own, step_other}

-- all sources have room in the array
room : (p : Plan) → PlanRules p → p.counts.n + p.counts.m + p.counts.k ≤ 64
room p rules = go (count-limits p rules.counts)
  where
    go : CountLimits p → p.counts.n + p.counts.m + p.counts.k ≤ 64
    go c = omega arith

-- both operands stand below their node, also the 0 that names nothing
operands-below : (p : Plan) → PlanRules p → (j : ℕ) → j < p.counts.k
    → (nat_at p.nodes.a j < p.counts.n + p.counts.m + j) × (nat_at p.nodes.b j < p.counts.n + p.counts.m + j)
operands-below p rules j h = go (count-limits p rules.counts) (rules.nodes j h) (eqb (nat_at p.nodes.kinds j) 2) refl
  where
    go : CountLimits p → NodeRule p j → (b : Bool) → eqb (nat_at p.nodes.kinds j) 2 ≡ b
        → (nat_at p.nodes.a j < p.counts.n + p.counts.m + j) × (nat_at p.nodes.b j < p.counts.n + p.counts.m + j)
    go c r true e = (r.a-below, omega (arith, r.unused (eqb-true (nat_at p.nodes.kinds j) 2 e)))
    go c r false e = (r.a-below, r.b-below (eqb-false (nat_at p.nodes.kinds j) 2 e))

-- ---- what the code asks
pub nodes-ready : (p : Plan) → PlanRules p → (values : List ℤ) → ((i : ℕ) → ∣ int_at values i ∣ ≤ M)
    → NodesReady p.nodes values (p.counts.n + p.counts.m) p.counts.k
nodes-ready p rules values sized =
    record {
      few = (count-limits p rules.counts).k;
      room = room p rules;
      a-below = λ j h. omega (arith, (operands-below p rules j h).0, room p rules);
      b-below = λ j h. omega (arith, (operands-below p rules j h).1, room p rules);
      low = λ j h. (within-size M (int_at p.nodes.lows j)).0 (node-limits p j (rules.nodes j h)).0;
      high = λ j h. (within-size M (int_at p.nodes.highs j)).0 (node-limits p j (rules.nodes j h)).1;
      sized = sized;
    }

row_sized : (k : ℕ) (f : ℕ → ℤ) → k ≤ 64 → ((i : ℕ) → i < k → ∣ f i ∣ ≤ M) → (i : ℕ) → ∣ int_at (row (pos 0) 64 k f) i ∣ ≤ M
row_sized k f h sized i = go (ltb i k) refl
  where
    go : (b : Bool) → ltb i k ≡ b → ∣ int_at (row (pos 0) 64 k f) i ∣ ≤ M
    go true e = rw (row_at (pos 0) 64 k f i h (ltb-true i k e)) (sized i (ltb-true i k e))
    go false e = rw (row_unused (pos 0) 64 k f i (ltb-false i k e)) (omega arith)

pub values_length : (p : Plan) (q u : List ℤ) → length (values_of p q u) ≡ 64
unfolding values_of
values_length p q u = length_row (pos 0) 64 (p.counts.n + p.counts.m + p.counts.k) (value_of p q u)

module _ (p : Plan) (q u : List ℤ) (rules : PlanRules p) where
  pub values_at : (i : ℕ) → i < p.counts.n + p.counts.m + p.counts.k → int_at (values_of p q u) i ≡ value_of p q u i
  unfolding values_of
  values_at i h = row_at (pos 0) 64 (p.counts.n + p.counts.m + p.counts.k) (value_of p q u) i (room p rules) h

  pub values-unused : (i : ℕ) → p.counts.n + p.counts.m + p.counts.k ≤ i → int_at (values_of p q u) i ≡ pos 0
  unfolding values_of
  values-unused i h = row_unused (pos 0) 64 (p.counts.n + p.counts.m + p.counts.k) (value_of p q u) i h

  module _ (outputs : (i : ℕ) → i < p.counts.n → ∣ int_at q i ∣ ≤ M) (inputs : (j : ℕ) → j < p.counts.m → ∣ int_at u j ∣ ≤ M) where
    pub first-sized : (i : ℕ) → ∣ int_at (output_and_input_values p.counts.n p.counts.m q u) i ∣ ≤ M
    unfolding output_and_input_values
    first-sized = row_sized (p.counts.n + p.counts.m) _ (omega (arith, room p rules)) (λ i h. go i h (ltb i p.counts.n) refl)
      where
        go : (i : ℕ) → i < p.counts.n + p.counts.m → (b : Bool) → ltb i p.counts.n ≡ b → ∣ cond b (int_at q i) (int_at u (i - p.counts.n)) ∣ ≤ M
        go i h true e = outputs i (ltb-true i p.counts.n e)
        go i h false e = inputs (i - p.counts.n) (omega (arith, ltb-false i p.counts.n e))

    pub values-sized : (i : ℕ) → ∣ int_at (values_of p q u) i ∣ ≤ M
    unfolding values_of
    values-sized = row_sized (p.counts.n + p.counts.m + p.counts.k) (value_of p q u) (room p rules) (λ i h. value-size p q u rules outputs inputs i)

  -- ---- the nodes worked out
  abbrev base : ℕ
  base = p.counts.n + p.counts.m

  abbrev step : ℕ → List ℤ → List ℤ
  step = node_step p.nodes base

  -- a node's value by those of its operands
  node_by_operands : (j : ℕ) → j < p.counts.k
      → node_value (nat_at p.nodes.kinds j) (value_of p q u (nat_at p.nodes.a j)) (value_of p q u (nat_at p.nodes.b j)) (int_at p.nodes.lows j) (int_at p.nodes.highs j)
      ≡ value_of p q u (base + j)
  node_by_operands j h =
      let below = operands-below p rules j h in
      ap₂ (λ a b. node_value (nat_at p.nodes.kinds j) a b (int_at p.nodes.lows j) (int_at p.nodes.highs j)) (value-settled p q u j (nat_at p.nodes.a j) (omega arith) below.0)
      (value-settled p q u j (nat_at p.nodes.b j) (omega arith) below.1)
      ∙ sym (worked_out p q u rules j h)

  -- from an array that holds the values of integrators and inputs, and of the nodes that are not worked out anew
  module _ (anew : ℕ → Bool) (values : List ℤ) (full : length values ≡ 64)
      (sources : (i : ℕ) → i < base → int_at values i ≡ value_with p q u zero i)
      (kept : (j : ℕ) → j < p.counts.k → anew j ≡ false → int_at values (base + j) ≡ value_of p q u (base + j))
      (unused : (i : ℕ) → base + p.counts.k ≤ i → int_at values i ≡ pos 0) where
    -- once the first j nodes are visited
    record Visited (j : ℕ) (now : List ℤ) : Type 0 where
      entries : length now ≡ 64
      below : (i : ℕ) → i < base + j → int_at now i ≡ value_of p q u i
      above : (i : ℕ) → base + j ≤ i → int_at now i ≡ int_at values i

    none : Visited zero values
    none =
        record {
          entries = full;
          below = λ i h. sources i (omega arith) ∙ sym (value-settled p q u zero i (omega arith) h);
          above = λ i h. refl;
        }

    worked : (j : ℕ) (now : List ℤ) → j < p.counts.k → Visited j now → Visited (suc j) (step j now)
    unfolding node_from
    worked j now h v =
        record {
          entries = step-length _ base j now ∙ v.entries;
          below = λ i l. ⊎_elim
              (λ (e : i ≡ base + j). rw e (step-own _ base j now (omega (arith, v.entries, room p rules)) ∙ own))
              (λ (b : i < base + j). step_other _ base j now i (λ e. omega arith) ∙ v.below i b) (eq-or-lt_of_le (omega arith));
          above = λ i l. step_other _ base j now i (λ e. omega arith) ∙ v.above i (omega arith);
        }
      where
        own : node_from p.nodes base j now ≡ value_of p q u (base + j)
        own =
            let b = operands-below p rules j h in
            ap₂ (λ a b. node_value (nat_at p.nodes.kinds j) a b (int_at p.nodes.lows j) (int_at p.nodes.highs j)) (v.below (nat_at p.nodes.a j) b.0)
            (v.below (nat_at p.nodes.b j) b.1)
            ∙ node_by_operands j h

    passed : (j : ℕ) (now : List ℤ) → j < p.counts.k → anew j ≡ false → Visited j now → Visited (suc j) now
    passed j now h e v =
        record {
          entries = v.entries;
          below = λ i l. ⊎_elim (λ (same : i ≡ base + j). rw same (v.above (base + j) (omega arith) ∙ kept j h e))
              (λ (b : i < base + j). v.below i b) (eq-or-lt_of_le (omega arith));
          above = λ i l. v.above i (omega arith);
        }

    visited : (j : ℕ) → j ≤ p.counts.k → Visited j (each step anew j values)
    unfolding each
    visited zero h = none
    visited (suc j) h = go (anew j) refl (visited j (omega arith))
      where
        go : (b : Bool) → anew j ≡ b → Visited j (each step anew j values)
            → Visited (suc j) (cond b (step j (each step anew j values)) (each step anew j values))
        go true e v = worked j (each step anew j values) h v
        go false e v = passed j (each step anew j values) h e v

    -- every source has its value
    pub worked_anew : each step anew p.counts.k values ≡ values_of p q u
    worked_anew =
        let v = visited p.counts.k (omega arith) in
        ext_get_or (pos 0) _ (values_of p q u) (v.entries ∙ sym (values_length p q u)) (λ i h. go i (ltb i (base + p.counts.k)) refl)
      where
        go : (i : ℕ) (b : Bool) → ltb i (base + p.counts.k) ≡ b → int_at (each step anew p.counts.k values) i ≡ int_at (values_of p q u) i
        go i true e = let h = ltb-true i (base + p.counts.k) e in (visited p.counts.k (omega arith)).below i h ∙ sym (values_at i h)
        go i false e =
            let h = ltb-false i (base + p.counts.k) e in (visited p.counts.k (omega arith)).above i h ∙ unused i h ∙ sym (values-unused i h)

  pub all-nodes : each step (λ _. true) p.counts.k (output_and_input_values p.counts.n p.counts.m q u) ≡ values_of p q u
  unfolding output_and_input_values value_with
  all-nodes =
      worked_anew (λ _. true) (output_and_input_values p.counts.n p.counts.m q u) (length_row (pos 0) 64 base _) first (λ j h e. absurd (true≢false e))
      (λ i h. row_unused (pos 0) 64 base _ i (omega arith))
    where
      first : (i : ℕ) → i < base → int_at (output_and_input_values p.counts.n p.counts.m q u) i ≡ value_with p q u zero i
      first i h = row_at (pos 0) 64 base _ i (omega (arith, room p rules)) h ∙ rw (lt-ltb i base h)
