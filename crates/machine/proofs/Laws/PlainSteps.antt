-- Laws: the plain machine in document 01's words, entry by entry: its start and one of its instants, for a plan that keeps its rules.
-- Assumes nothing.
use Rattle.std.specs.Prelude.{◌≡◌, ℕ, ◌<◌, pos}
use Rattle.std.proofs.Common.{◌∙◌}
use Rattle.plan.specs.Lists.{nat_at, int_at}
use Rattle.plan.specs.Rules.{PlanRules}
use Rattle.plan.proofs.Laws.Rows.{row_at}
use Rattle.plan.proofs.Laws.CountLimits.{CountLimits, count-limits}
use Rattle.plan.specs.declared.Plan.{Plan}
use Rattle.machine.specs.Values.{rate_of}
use Rattle.machine.specs.Due.{due_of}
use Rattle.machine.specs.Held.{held_start}
use Rattle.machine.specs.Reach.{is_due, woken, placed, Woken}
use Rattle.machine.specs.Instant.{Outcome, due_then}
use Rattle.machine.specs.Plain.{Plain, settled, start_outcome, plain_start, plain_next_tick, plain_position, plain_outcome, plain_instant}
use Rattle.machine.proofs.Laws.Inputs.{input-set, input-not_set}
use Rattle.machine.proofs.Laws.InstantFigures.{x_then}
use Rattle.machine.proofs.Laws.Steps.{output-due, output_not_woken}
use Rattle.machine.proofs.Laws.Held.{slope_is}
use Rattle.machine.proofs.Laws.Woken.{placed_is}

-- ---- any outcome at tick t, with every integrator moved
module _ (p : Plan) (limits : CountLimits p) (t : ℕ) (o : Outcome) (i : ℕ) (h : i < p.counts.n) where
  settled-x : int_at (settled p t o).x i ≡ o.x i
  unfolding settled
  settled-x = row_at (pos 0) 32 p.counts.n o.x i limits.n h

  settled-s : int_at (settled p t o).s i ≡ o.s i
  unfolding settled
  settled-s = row_at (pos 0) 32 p.counts.n o.s i limits.n h

  settled-d : nat_at (settled p t o).d i ≡ due_of p o.held.q i t (int_at (settled p t o).x i) (int_at (settled p t o).s i)
  unfolding settled due_then
  settled-d = row_at 0 32 p.counts.n _ i limits.n h ∙ rw (settled-x, settled-s)

module _ (p : Plan) (rules : PlanRules p) where
  limits : CountLimits p
  limits = count-limits p rules.counts

  -- ---- Start
  abbrev begun : Plain
  begun = plain_start p

  pub began_x : (i : ℕ) → i < p.counts.n → int_at begun.x i ≡ int_at p.integrators.starts i
  unfolding plain_start
  began_x = settled-x p limits 0 (start_outcome p)

  pub began_s : (i : ℕ) → i < p.counts.n → int_at begun.s i ≡ rate_of p begun.held.q begun.held.inputs i
  unfolding plain_start settled
  began_s i h = settled-s p limits 0 (start_outcome p) i h ∙ slope_is p (held_start p) i

  pub began_d : (i : ℕ) → i < p.counts.n → nat_at begun.d i ≡ due_of p begun.held.q i 0 (int_at begun.x i) (int_at begun.s i)
  unfolding plain_start settled
  began_d = settled-d p limits 0 (start_outcome p)

  -- ---- one instant
  module _ (m : Plain) where
    abbrev t : ℕ
    t = plain_next_tick p m

    abbrev then : Plain
    then = plain_instant p m

    -- 1. outputs
    pub plain_due : (i : ℕ) → i < p.counts.n → nat_at m.d i ≡ t → int_at then.held.q i ≡ plain_position p m i
    unfolding plain_instant settled
    plain_due = output-due p limits m.d t (plain_position p m) m.held.q

    pub plain_not_woken : (i : ℕ) → i < p.counts.n → (Woken m.d t i → ⊥) → int_at then.held.q i ≡ int_at m.held.q i
    unfolding plain_instant settled
    plain_not_woken = output_not_woken p limits m.d t (plain_position p m) m.held.q

    -- 2. inputs
    pub plain_set : (j e : ℕ) → j < p.counts.m → e < p.counts.commands → nat_at p.commands.ticks e ≡ t → nat_at p.commands.inputs e ≡ j
        → int_at then.held.inputs j ≡ int_at p.commands.values e
    unfolding plain_instant settled
    plain_set = input-set p rules m.held.inputs t

    pub plain_not_set : (j : ℕ) → j < p.counts.m → ((e : ℕ) → e < p.counts.commands → nat_at p.commands.ticks e ≡ t → nat_at p.commands.inputs e ≡ j → ⊥)
        → int_at then.held.inputs j ≡ int_at m.held.inputs j
    unfolding plain_instant settled
    plain_not_set = input-not_set p rules m.held.inputs t

    -- 5. "every integrator moved"
    pub plain_x : (i : ℕ) → i < p.counts.n → int_at then.x i ≡ plain_position p m i
    unfolding plain_instant
    plain_x i h =
        settled-x p limits t (plain_outcome p m) i h
        ∙ x_then p limits (woken (is_due m.d t)) (placed (plain_position p m)) m.held.q i h ∙ placed_is (plain_position p m) i

    pub plain_s : (i : ℕ) → i < p.counts.n → int_at then.s i ≡ rate_of p then.held.q then.held.inputs i
    unfolding plain_instant settled
    plain_s i h = settled-s p limits t (plain_outcome p m) i h ∙ slope_is p (plain_outcome p m).held i

    pub plain_d : (i : ℕ) → i < p.counts.n → nat_at then.d i ≡ due_of p then.held.q i t (int_at then.x i) (int_at then.s i)
    unfolding plain_instant settled
    plain_d = settled-d p limits t (plain_outcome p m)
