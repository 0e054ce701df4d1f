-- Laws: where some sources change, only the nodes that depend on one of them are worked out anew. The others keep the values that they had
-- before, and so every source has its new value. Assumes nothing.
use Rattle.std.specs.Prelude.{◌≡◌, Bool, false, List, ℕ, zero, ◌+◌, ◌≤◌, ◌<◌, ℤ, length}
use Rattle.std.proofs.Math.Path.{sym}
use Rattle.std.proofs.Common.{◌∙◌, arith}
use Rattle.bitset.specs.Mask.{has, mask_of, each}
use Rattle.bitset.proofs.Laws.Visiting.{each_mask}
use Rattle.plan.specs.Lists.{int_at}
use Rattle.plan.specs.Rules.{PlanRules}
use Rattle.plan.proofs.Laws.CountLimits.{count-limits}
use Rattle.plan.specs.declared.Plan.{Plan}
use Rattle.machine.specs.Reach.{depends_with}
use Rattle.machine.specs.Values.{value_with, value_of}
use Rattle.machine.proofs.Laws.Unreached.{value_kept}
use Rattle.values.specs.Sources.{values_of, node_step}
use Rattle.values.proofs.Laws.SourceValues.{values_at, values-unused, worked_anew}

-- With a set of sources that change; q₀ and u₀ are the outputs and input values before, q and u after. `values` holds the new values of
-- integrators and inputs, and above them what it held before.
module _ (p : Plan) (rules : PlanRules p) (changed : ℕ → Bool) (q u q₀ u₀ : List ℤ)
    (same : (i : ℕ) → changed i ≡ false → value_with p q u zero i ≡ value_with p q₀ u₀ zero i)
    (values : List ℤ) (full : length values ≡ 64)
    (sources : (i : ℕ) → i < p.counts.n + p.counts.m → int_at values i ≡ value_with p q u zero i)
    (others : (i : ℕ) → p.counts.n + p.counts.m ≤ i → int_at values i ≡ int_at (values_of p q₀ u₀) i) where
  abbrev base : ℕ
  base = p.counts.n + p.counts.m

  abbrev step : ℕ → List ℤ → List ℤ
  step = node_step p.nodes base

  abbrev depends : ℕ → Bool
  depends j = depends_with p changed p.counts.k (base + j)

  node_kept_lem : (j : ℕ) → j < p.counts.k → depends j ≡ false → int_at values (base + j) ≡ value_of p q u (base + j)
  unfolding value_of
  node_kept_lem j h e =
      others (base + j) (omega arith) ∙ values_at p q₀ u₀ rules (base + j) (omega arith)
      ∙ sym (value_kept p changed q u q₀ u₀ same p.counts.k (base + j) e)

  nodes_worked : each step depends p.counts.k values ≡ values_of p q u
  nodes_worked = worked_anew p q u rules depends values full sources node_kept_lem (λ i h. others i (omega arith) ∙ values-unused p q₀ u₀ rules i h)

  -- as the code visits them, by a mask
  pub dependent_nodes : (nodes : ℕ) → nodes ≡ mask_of depends p.counts.k → each step (has nodes) 32 values ≡ values_of p q u
  dependent_nodes nodes e =
      let few = (count-limits p rules.counts).k in
      rw e (each_mask step depends p.counts.k 32 values (omega arith)) ∙ nodes_worked
