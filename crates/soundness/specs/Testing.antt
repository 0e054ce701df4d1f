-- Model of the code: what the test of a state answers: the tables that a run goes on with, or none where the state is not sound.
use Rattle.std.specs.Prelude.{Option, Some, None, cond}
use Rattle.plan.specs.declared.Plan.{Plan}
use Rattle.machine.specs.SoundTest.{running_sound, is_sound}
use Rattle.machine.specs.declared.Running.{Running}
use Rattle.machine.specs.declared.State.{State}
use Rattle.values.specs.Sources.{values_of}
use Rattle.rates.specs.Links.{ranges_of}
use Rattle.soundness.specs.declared.Tested.{Tested}

-- the tables of a state, which the test of a sound one hands on
abbrev pub sound_with : Plan → Running → Tested
sound_with p r = record { ranges = ranges_of p; values = values_of p r.q r.inputs }

unfoldable pub tested_of : State → Option Tested
tested_of st = cond (is_sound st) (Some (sound_with st.plan st.run)) None

-- of running figures whose plan is sound
unfoldable pub running_tested_of : Plan → Running → Option Tested
running_tested_of p r = cond (running_sound p r) (Some (sound_with p r)) None
