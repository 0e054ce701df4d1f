-- Model of the code: what a run answers, in the words of `machine/Runs`, and what it asks.
use Rattle.std.specs.Prelude.{◌≡◌, List, ℕ, ◌≤◌, ℤ, length}
use Rattle.plan.specs.declared.Plan.{Plan}
use Rattle.machine.specs.Status.{status_of}
use Rattle.machine.specs.Runs.{after_run, events_of_run, room_of}
use Rattle.machine.specs.Sound.{SoundInWords}
use Rattle.machine.specs.declared.Running.{Running}
use Rattle.machine.specs.declared.Engine.{Engine}
use Rattle.values.specs.Sources.{values_of}
use Rattle.rates.specs.Links.{ranges_of}
use Rattle.engine.specs.declared.runs.Ended.{Ended}

-- the status with its integrator, the bytes written, and the running figures after the run
unfoldable pub ended_of : (p : Plan) (engine : Engine) (budget : ℕ) (r : Running) → Ended
ended_of p engine budget r =
    record {
      status = status_of p (after_run p engine budget r);
      written = length (events_of_run p engine budget r);
      run = after_run p engine budget r;
    }

-- a sound state, with the plan's table of links and the values of its sources, and room for the events of each instant
pub record RunReady (p : Plan) (r : Running) (ranges : List ℕ) (values : List ℤ) (budget size : ℕ) : Type 0 where
  pub sound : SoundInWords p r
  pub ranges_are : ranges ≡ ranges_of p
  pub values_are : values ≡ values_of p r.q r.inputs
  pub room : room_of p budget ≤ size
