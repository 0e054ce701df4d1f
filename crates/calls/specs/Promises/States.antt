-- Promise: of sound states, "Loading and runs leave sound states." Statements; the proofs stand in Proofs.
use Rattle.std.specs.Prelude.{◌≡◌, true, List, ℕ, ◌≤◌, ◌<◌, pos, length}
use Rattle.plan.specs.Lists.{nat_at, int_at}
use Rattle.plan.specs.Encoding.{encode}
use Rattle.plan.specs.Idle.{idle_plan}
use Rattle.plan.specs.declared.Plan.{Plan}
use Rattle.machine.specs.Start.{start_state, idle_state}
use Rattle.machine.specs.Sound.{RunningWidths, Sound}
use Rattle.machine.specs.SoundTest.{is_sound}
use Rattle.machine.specs.declared.State.{State}
use Rattle.machine.specs.declared.Engine.{Engine}
use Rattle.calls.specs.Calls.{load_of, run_of}

-- the test that the calls try is the clauses of "A sound state"
abbrev pub SoundMeans : Type 0
SoundMeans = (st : State) → (is_sound st ≡ true → Sound st) × (Sound st → is_sound st ≡ true)

abbrev pub LoadSound : Type 0
LoadSound = (file : List ℕ) → Sound (load_of file).state

abbrev pub RunSound : Type 0
RunSound = (engine : Engine) (st : State) (budget : ℕ) (buffer : List ℕ) → Sound st → Sound (run_of engine st budget buffer).state

-- a sound state's next command is determined: it is the only number of which "the first with tick above c, or the command count if none" holds
abbrev pub NextDetermined : Type 0
NextDetermined =
    (st : State) (next : ℕ) → Sound st → next ≤ st.plan.counts.commands → ((e : ℕ) → e < next → nat_at st.plan.commands.ticks e ≤ st.run.clocks.clock)
    → (next < st.plan.counts.commands → st.run.clocks.clock < nat_at st.plan.commands.ticks next)
    → st.run.clocks.next ≡ next

-- an accepted run that is paused has moved the clock on
abbrev pub RunMoves : Type 0
RunMoves =
    (engine : Engine) (st : State) (budget : ℕ) (buffer : List ℕ) → (run_of engine st budget buffer).number ≡ 0 → 1 ≤ budget
    → (run_of engine st budget buffer).status ≡ 0 → st.run.clocks.clock < (run_of engine st budget buffer).state.run.clocks.clock

-- "idle is the start of one integrator (start 0, quantum 1), nothing else, horizon 1"; its file has 52 bytes
pub record IdlePromise (p : Plan) (idle : State) : Type 0 where
  pub start : idle ≡ start_state p
  pub integrators : p.counts.n ≡ 1
  pub nothing_else : (p.counts.m ≡ 0) × (p.counts.k ≡ 0) × (p.counts.links ≡ 0) × (p.counts.commands ≡ 0)
  pub first-start : int_at p.integrators.starts 0 ≡ pos 0
  pub quantum : int_at p.integrators.quanta 0 ≡ pos 1
  pub horizon : p.horizon ≡ 1
  pub size : length (encode p) ≡ 52
  pub loaded : load_of (encode p) ≡ record { number = 0; entry = 0; state = idle }
  pub sound : Sound idle

abbrev pub IdleLoaded : Type 0
IdleLoaded = IdlePromise idle_plan idle_state

-- a run keeps the width of the arrays
abbrev pub RunWidths : Type 0
RunWidths =
    (engine : Engine) (st : State) (budget : ℕ) (buffer : List ℕ) → RunningWidths st.run
    → RunningWidths (run_of engine st budget buffer).state.run
