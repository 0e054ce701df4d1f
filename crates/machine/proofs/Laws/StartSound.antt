-- Laws: the start of a plan that keeps the rules is sound, and so is the idle state. Assumes nothing.
use Rattle.std.specs.Prelude.{◌≡◌, refl, ℕ, ◌<◌, pos}
use Rattle.std.proofs.Common.{◌∙◌, arith}
use Rattle.plan.specs.Lists.{nat_at, int_at}
use Rattle.plan.specs.Rules.{PlanRules}
use Rattle.plan.specs.Unused.{PlanUnusedZero}
use Rattle.plan.specs.Idle.{idle_plan}
use Rattle.plan.specs.declared.Plan.{Plan}
use Rattle.plan.proofs.Laws.Rows.{row_at, row_unused}
use Rattle.plan.proofs.Laws.CountLimits.{CountLimits, count-limits}
use Rattle.plan.proofs.Laws.IdlePlan.{idle-rules, idle-unused}
use Rattle.machine.specs.Due.{due_of}
use Rattle.machine.specs.Held.{slope_of, held_start}
use Rattle.machine.specs.Start.{start_slope, start_due, start_of, start_state, idle_state}
use Rattle.machine.proofs.Laws.SoundClauses.{SoundIntegrator, SoundRunning}
use Rattle.machine.proofs.Laws.BetweenLevels.{between_itself}
use Rattle.machine.proofs.Laws.Due.{due_ahead_lem}
use Rattle.machine.proofs.Laws.Held.{start-held}

-- slopes, last-moved ticks and due ticks, entry by entry
module _ (p : Plan) (limits : CountLimits p) (i : ℕ) (h : i < p.counts.n) where
  pub start_slope_lem : int_at (start_of p).s i ≡ slope_of p (held_start p) i
  unfolding start_of start_slope
  start_slope_lem = row_at (pos 0) 32 p.counts.n _ i limits.n h

  pub start-last : nat_at (start_of p).l i ≡ 0
  unfolding start_of
  start-last = row_at 0 32 p.counts.n _ i limits.n h

  pub start_due_lem : nat_at (start_of p).d i ≡ due_of p p.integrators.starts i 0 (int_at p.integrators.starts i) (int_at (start_of p).s i)
  unfolding start_of start_slope start_due
  start_due_lem = row_at 0 32 p.counts.n _ i limits.n h ∙ rw start_slope_lem

module _ (p : Plan) (rules : PlanRules p) (unused : PlanUnusedZero p) where
  start-integrator : (i : ℕ) → i < p.counts.n → SoundIntegrator p (start_of p) i
  unfolding start_of due_of
  start-integrator i h =
      let n = count-limits p rules.counts in let x = int_at p.integrators.starts i in
      record {
        moved = omega (arith, start-last p n i h);
        ahead = rw (start_due_lem p n i h) (due_ahead_lem 0 x _ _ (int_at (start_of p).s i) (omega arith));
        between = between_itself p p.integrators.starts i (rules.integrators i h) x refl;
        slope = start_slope_lem p n i h;
        due = rw (start-last p n i h) (start_due_lem p n i h);
      }

  pub start-sound : SoundRunning p (start_of p)
  unfolding start_of
  start-sound = record {
    plan = rules;
    clock = omega arith;
    integrators = start-integrator;
    held = start-held p rules unused;
    updates = omega arith;
    plan-unused = unused;
    moved-unused = record {
      x = unused.starts;
      s = row_unused (pos 0) 32 p.counts.n _;
      l = row_unused 0 32 p.counts.n _;
      d = row_unused 0 32 p.counts.n _;
    };
  }

pub idle-sound : SoundRunning idle_state.plan idle_state.run
unfolding idle_state start_state
idle-sound = start-sound idle_plan idle-rules idle-unused
