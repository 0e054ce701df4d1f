-- Binding definition: "A run with budget b takes b instants, or fewer if the status is first 1 or 2"; the room that its events may take; and
-- "Position call".
use Rattle.std.specs.Prelude.{cond, List, [], ◌++◌, ℕ, zero, suc, ◌+◌, ◌*◌, ℤ}
use Rattle.plan.specs.Numbers.{event_bytes}
use Rattle.plan.specs.declared.Plan.{Plan}
use Rattle.machine.specs.Instant.{position_at, instant, events_of}
use Rattle.machine.specs.Status.{running_paused}
use Rattle.machine.specs.declared.Running.{Running}
use Rattle.machine.specs.declared.Engine.{Engine}

module _ (p : Plan) (engine : Engine) where
  -- the running figures after a run
  unfoldable pub after_run : ℕ → Running → Running
  after_run zero r = r
  after_run (suc b) r = cond (running_paused p r) (after_run b (instant p engine r)) r

  -- the bytes of its events
  unfoldable pub events_of_run : ℕ → Running → List ℕ
  events_of_run zero r = []
  events_of_run (suc b) r = cond (running_paused p r) (events_of p r ++ events_of_run b (instant p engine r)) []

-- the events of one instant at most: "due integrators and commanded inputs", so one of each
unfoldable pub events_most : Plan → ℕ
events_most p = p.counts.n + p.counts.m

-- "A run's buffer is shorter than budget×(n+m)×12 bytes": the room that a run asks
unfoldable pub room_of : Plan → ℕ → ℕ
room_of p budget = budget * events_most p * event_bytes

-- "Position call: x+s×(c−l) for a numbered integrator."
unfoldable pub position_of : Running → ℕ → ℤ
position_of r i = position_at r r.clocks.clock i
