-- Laws: the arrays of the running figures have their full width from the start on. Assumes nothing.
use Rattle.std.specs.Prelude.{Bool, cond, pos}
use Rattle.std.proofs.Math.Bool.{true, false}
use Prim.Native.Nat.{ℕ, zero, suc}
use Rattle.plan.specs.Format.{PlanWidths}
use Rattle.plan.proofs.Laws.Rows.{length_row}
use Rattle.plan.specs.declared.Plan.{Plan}
use Rattle.machine.specs.Held.{inputs_then}
use Rattle.machine.specs.Start.{start_of}
use Rattle.machine.specs.Instant.{outputs_by, figures_after, instant}
use Rattle.machine.specs.Status.{running_paused}
use Rattle.machine.specs.Runs.{after_run}
use Rattle.machine.specs.Sound.{RunningWidths}
use Rattle.machine.specs.declared.Running.{Running}
use Rattle.machine.specs.declared.Engine.{Engine}

module _ (p : Plan) where
  pub start-shaped : PlanWidths p → RunningWidths (start_of p)
  unfolding start_of
  start-shaped s =
      record {
        x = s.starts;
        q = s.starts;
        s = length_row (pos 0) 32 p.counts.n _;
        l = length_row 0 32 p.counts.n _;
        d = length_row 0 32 p.counts.n _;
        inputs = s.firsts;
      }

  pub instant-shaped : (engine : Engine) (r : Running) → RunningWidths (instant p engine r)
  unfolding instant figures_after outputs_by inputs_then
  instant-shaped engine r =
      record {
        x = length_row (pos 0) 32 p.counts.n _;
        q = length_row (pos 0) 32 p.counts.n _;
        s = length_row (pos 0) 32 p.counts.n _;
        l = length_row 0 32 p.counts.n _;
        d = length_row 0 32 p.counts.n _;
        inputs = length_row (pos 0) 8 p.counts.m _;
      }

  pub after_shaped : (engine : Engine) (b : ℕ) (r : Running) → RunningWidths r → RunningWidths (after_run p engine b r)
  unfolding after_run
  after_shaped engine zero r h = h
  after_shaped engine (suc b) r h = go (running_paused p r) (after_shaped engine b (instant p engine r) (instant-shaped engine r))
    where
      go : (c : Bool) → RunningWidths (after_run p engine b (instant p engine r)) → RunningWidths (cond c (after_run p engine b (instant p engine r)) r)
      go true ih = ih
      go false ih = h
