-- Laws: one instant in document 01's words, step by step, for a plan that keeps its rules. Assumes nothing.
use Rattle.std.specs.Prelude.{◌≡◌, refl, Bool, true, List, ℕ, ◌+◌, ◌<◌, ℤ}
use Rattle.std.proofs.Common.{◌∙◌, inl}
use Rattle.bitset.specs.Counts.{count_of}
use Rattle.plan.specs.Lists.{nat_at, int_at}
use Rattle.plan.specs.Rules.{PlanRules}
use Rattle.plan.proofs.Laws.CountLimits.{CountLimits, count-limits}
use Rattle.plan.proofs.Laws.TestMeanings.{Means, means_false, either}
use Rattle.plan.specs.declared.Plan.{Plan}
use Rattle.machine.specs.Values.{rate_of}
use Rattle.machine.specs.Due.{due_of}
use Rattle.machine.specs.Reach.{is_due, woken, placed, touched, Woken}
use Rattle.machine.specs.Instant.{position_at, moves, Moves, outputs_by, due_then, figures_after, outcome, next_tick_of, instant}
use Rattle.machine.proofs.Laws.Inputs.{input-set, input-not_set}
use Rattle.machine.proofs.Laws.Reach.{instant_reaches}
use Rattle.machine.proofs.Laws.InstantFigures.{outputs_at, output_kept, x_then, x_at, l_at, s_at, d_at}
use Rattle.machine.proofs.Laws.Held.{slope_is}
use Rattle.machine.proofs.Laws.Woken.{woken_means, placed_is}
use Rattle.machine.specs.declared.Running.{Running}
use Rattle.machine.specs.declared.Engine.{Engine}
use Rattle.machine.specs.declared.Engine.TheVariants.{Lazy, Eager}

-- 5. "The lazy engine moves those due or reached, the eager engine all"
pub moves_means : (p : Plan) → PlanRules p → (engine : Engine) (d : List ℕ) (t i : ℕ) → Means (moves p engine d t i) (Moves p engine d t i)
unfolding moves touched
moves_means p rules Lazy d t i = either (woken_means d t i) (instant_reaches p d t i rules)
moves_means p rules Eager d t i = (λ e. tt, λ u. refl)

pub woken-moves : (p : Plan) (engine : Engine) (d : List ℕ) (t i : ℕ) → Woken d t i → Moves p engine d t i
woken-moves p Lazy d t i e = inl e
woken-moves p Eager d t i e = tt

-- 1. the outputs, by the due ticks and where each integrator is
module _ (p : Plan) (limits : CountLimits p) (d : List ℕ) (t : ℕ) (place : ℕ → ℤ) (q : List ℤ) (i : ℕ) (h : i < p.counts.n) where
  abbrev outputs : List ℤ
  outputs = outputs_by p (woken (is_due d t)) (placed place) q

  pub output-due : nat_at d i ≡ t → int_at outputs i ≡ place i
  output-due e = outputs_at p limits (woken (is_due d t)) (placed place) q i h ∙ rw ((woken_means d t i).1 e) (placed_is place i)

  pub output_not_woken : (Woken d t i → ⊥) → int_at outputs i ≡ int_at q i
  output_not_woken n = output_kept p limits (woken (is_due d t)) (placed place) q i h (means_false (woken_means d t i).0 n)

module _ (p : Plan) (rules : PlanRules p) (engine : Engine) (r : Running) where
  limits : CountLimits p
  limits = count-limits p rules.counts

  abbrev t : ℕ
  t = next_tick_of p r

  abbrev who : ℕ → Bool
  who = moves p engine r.d t

  abbrev count : ℕ
  count = r.clocks.updates + count_of who p.counts.n

  abbrev then : Running
  then = instant p engine r

  -- ---- 1. outputs
  pub step-due : (i : ℕ) → i < p.counts.n → nat_at r.d i ≡ t → int_at then.q i ≡ position_at r t i
  unfolding instant figures_after
  step-due = output-due p limits r.d t (position_at r t) r.q

  pub step_not_woken : (i : ℕ) → i < p.counts.n → (Woken r.d t i → ⊥) → int_at then.q i ≡ int_at r.q i
  unfolding instant figures_after
  step_not_woken = output_not_woken p limits r.d t (position_at r t) r.q

  -- ---- 2. inputs
  pub step_set : (j e : ℕ) → j < p.counts.m → e < p.counts.commands → nat_at p.commands.ticks e ≡ t → nat_at p.commands.inputs e ≡ j → int_at then.inputs j ≡ int_at p.commands.values e
  unfolding instant figures_after
  step_set = input-set p rules r.inputs t

  pub step-not_set : (j : ℕ) → j < p.counts.m → ((e : ℕ) → e < p.counts.commands → nat_at p.commands.ticks e ≡ t → nat_at p.commands.inputs e ≡ j → ⊥)
      → int_at then.inputs j ≡ int_at r.inputs j
  unfolding instant figures_after
  step-not_set = input-not_set p rules r.inputs t

  -- ---- 5. who moves
  module _ (i : ℕ) (h : i < p.counts.n) (m : Moves p engine r.d t i) where
    moving : moves p engine r.d t i ≡ true
    moving = (moves_means p rules engine r.d t i).1 m

    there : (outcome p r t).x i ≡ position_at r t i
    there = x_then p limits (woken (is_due r.d t)) (placed (position_at r t)) r.q i h ∙ placed_is (position_at r t) i

    pub step-x : int_at then.x i ≡ position_at r t i
    unfolding instant
    step-x = x_at p limits r t (outcome p r t) who count i h ∙ rw moving there

    pub step-l : nat_at then.l i ≡ t
    unfolding instant
    step-l = l_at p limits r t (outcome p r t) who count i h ∙ rw moving

    slope-there : int_at then.s i ≡ (outcome p r t).s i
    unfolding instant
    slope-there = s_at p limits r t (outcome p r t) who count i h ∙ rw moving

    pub step-s : int_at then.s i ≡ rate_of p then.q then.inputs i
    unfolding instant figures_after
    step-s = slope-there ∙ slope_is p (outcome p r t).held i

    pub step-d : nat_at then.d i ≡ due_of p then.q i t (int_at then.x i) (int_at then.s i)
    unfolding instant figures_after due_then
    step-d = d_at p limits r t (outcome p r t) who count i h ∙ rw (moving, step-x, slope-there, there)

  pub step_not_moved : (i : ℕ) → i < p.counts.n → (Moves p engine r.d t i → ⊥)
      → (int_at then.x i ≡ int_at r.x i) × (nat_at then.l i ≡ nat_at r.l i) × (int_at then.s i ≡ int_at r.s i) × (nat_at then.d i ≡ nat_at r.d i)
  unfolding instant
  step_not_moved i h n =
      let still = means_false (moves_means p rules engine r.d t i).0 n in (
        x_at p limits r t (outcome p r t) who count i h ∙ rw still,
        l_at p limits r t (outcome p r t) who count i h ∙ rw still,
        s_at p limits r t (outcome p r t) who count i h ∙ rw still,
        d_at p limits r t (outcome p r t) who count i h ∙ rw still,
      )
