-- Binding definition: "Status is read from the state: 1 finished if t is never or above the horizon; else 2 range if step 1 bars the
-- instant (with the lowest such integrator); else 0 paused."
use Rattle.std.specs.Prelude.{Bool, true, false, cond, not, ◌&&◌, ◌||◌, ℕ, ℤ, ltb, eqb}
use Rattle.integers.specs.Range.{within}
use Rattle.plan.specs.Numbers.{M, never, paused, finished, range}
use Rattle.plan.specs.Lists.{first_from}
use Rattle.plan.specs.declared.Plan.{Plan}
use Rattle.machine.specs.Reach.{is_due, gives}
use Rattle.machine.specs.Instant.{position_at, next_tick_of}
use Rattle.machine.specs.declared.Running.{Running}
use Rattle.machine.specs.declared.Status.{Status}
use Rattle.machine.specs.declared.Status.TheVariants.{Paused, Finished, Range}

-- the number of each status, as a run answers it
unfoldable pub status_number : Status → ℕ
status_number Paused = paused
status_number Finished = finished
status_number (Range i) = range

-- "integrator (0 unless range)"
unfoldable pub status_integrator : Status → ℕ
status_integrator Paused = 0
status_integrator Finished = 0
status_integrator (Range i) = i

unfoldable pub is_paused : Status → Bool
is_paused Paused = true
is_paused Finished = false
is_paused (Range i) = false

-- "If any such value is beyond ±M, the instant isn't taken": integrator i gives its position as output, and that value is beyond
unfoldable pub bars : (giving : ℕ → Bool) (value : ℕ → ℤ) (i : ℕ) → Bool
bars giving value i = giving i && not (within M (value i))

-- the lowest integrator that bars the instant, or n where none does
unfoldable pub barring : (p : Plan) (giving : ℕ → Bool) (value : ℕ → ℤ) → ℕ
barring p giving value = first_from (bars giving value) 0 p.counts.n

-- the status, by the next instant's tick and the lowest integrator that bars it, or n
unfoldable pub status_by : (horizon n t lowest : ℕ) → Status
status_by horizon n t lowest = cond (eqb t never || ltb horizon t) Finished (cond (ltb lowest n) (Range lowest) Paused)

-- by the next instant's tick, who gives its position as output there, and where each integrator is there
unfoldable pub status_at : (p : Plan) (t : ℕ) (giving : ℕ → Bool) (value : ℕ → ℤ) → Status
status_at p t giving value = status_by p.horizon p.counts.n t (barring p giving value)

module _ (p : Plan) (r : Running) where
  unfoldable pub status_of : Status
  status_of = let t = next_tick_of p r in status_at p t (gives (is_due r.d t)) (position_at r t)

  unfoldable pub running_paused : Bool
  running_paused = is_paused status_of
