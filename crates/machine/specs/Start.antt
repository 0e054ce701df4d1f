-- Binding definition: "Start: x = q = start, l = c = 0, slopes and dues by rule, counts 0." And the idle state.
use Rattle.std.specs.Prelude.{List, ℕ, ℤ, pos}
use Rattle.plan.specs.Numbers.{most_integrators}
use Rattle.plan.specs.Lists.{int_at, row}
use Rattle.plan.specs.Idle.{idle_plan}
use Rattle.plan.specs.declared.Plan.{Plan}
use Rattle.machine.specs.Due.{due_of}
use Rattle.machine.specs.Held.{running_by, slope_of, held_start}
use Rattle.machine.specs.declared.Running.{Running}
use Rattle.machine.specs.declared.State.{State}

module _ (p : Plan) where
  unfoldable pub start_slope : ℕ → ℤ
  start_slope i = slope_of p (held_start p) i

  unfoldable pub start_due : ℕ → ℕ
  start_due i = due_of p p.integrators.starts i 0 (int_at p.integrators.starts i) (start_slope i)

  unfoldable pub start_of : Running
  start_of =
      let s = row (pos 0) most_integrators p.counts.n start_slope in
      let l : List ℕ = row 0 most_integrators p.counts.n (λ i. 0) in
      let d : List ℕ = row 0 most_integrators p.counts.n start_due in
      running_by (held_start p) p.integrators.starts s l d 0 0

  -- the state that a plan is loaded as
  unfoldable pub start_state : State
  start_state = record { plan = p; run = start_of }

-- "idle is the start of one integrator (start 0, quantum 1), nothing else, horizon 1"
unfoldable pub idle_state : State
idle_state = start_state idle_plan
