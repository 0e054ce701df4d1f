-- Promise: of every call that takes a state, its number, what it answers and writes, and what a declined one leaves. Statements,
-- with document 01's numbers as they are written there; the proofs stand in Proofs.
use Rattle.std.specs.Prelude.{◌≡◌, List, ◌++◌, ℕ, ◌+◌, ◌-◌, ◌*◌, ◌≤◌, ◌<◌, pos, ◌+ℤ◌, ◌*ℤ◌, length, drop}
use Rattle.words.specs.Word.{Bytes}
use Rattle.plan.specs.Lists.{nat_at, int_at}
use Rattle.plan.specs.Encoding.{encode}
use Rattle.machine.specs.Status.{status_number, status_integrator, status_of}
use Rattle.machine.specs.Runs.{after_run, events_of_run}
use Rattle.machine.specs.Sound.{Sound}
use Rattle.machine.specs.declared.State.{State}
use Rattle.machine.specs.declared.Engine.{Engine}
use Rattle.calls.specs.Calls.{write_of, buffer_of_write, run_of, buffer_of_run, positioned_of}

-- "When a call declines", 10 to 14: each number exactly where it is named, tried in order
pub record NumberPromise (st : State) (buffer : List ℕ) : Type 0 where
  pub write-unsound : (Sound st → ⊥) → (write_of st buffer).number ≡ 10
  pub write-short : Sound st → length buffer < length (encode st.plan) → (write_of st buffer).number ≡ 13
  pub write-accepted : Sound st → length (encode st.plan) ≤ length buffer → (write_of st buffer).number ≡ 0
  pub run-unsound : (engine : Engine) (budget : ℕ) → (Sound st → ⊥) → (run_of engine st budget buffer).number ≡ 10
  pub run-above : (engine : Engine) (budget : ℕ) → Sound st → 1024 < budget → (run_of engine st budget buffer).number ≡ 11
  pub run_short : (engine : Engine) (budget : ℕ) → Sound st → budget ≤ 1024 → length buffer < budget * (st.plan.counts.n + st.plan.counts.m) * 12
      → (run_of engine st budget buffer).number ≡ 12
  pub run-accepted : (engine : Engine) (budget : ℕ) → Sound st → budget ≤ 1024 → budget * (st.plan.counts.n + st.plan.counts.m) * 12 ≤ length buffer
      → (run_of engine st budget buffer).number ≡ 0
  pub position-unsound : (i : ℕ) → (Sound st → ⊥) → (positioned_of st i).number ≡ 10
  pub position-above : (i : ℕ) → Sound st → st.plan.counts.n ≤ i → (positioned_of st i).number ≡ 14
  pub position-accepted : (i : ℕ) → Sound st → i < st.plan.counts.n → (positioned_of st i).number ≡ 0

abbrev pub EveryNumber : Type 0
EveryNumber = (st : State) (buffer : List ℕ) → NumberPromise st buffer

-- what an accepted call answers and writes, on every sound state, one filled by hand too
pub record AcceptedPromise (st : State) (buffer : List ℕ) : Type 0 where
  pub write : (write_of st buffer).number ≡ 0
      → ((write_of st buffer).length ≡ length (encode st.plan)) × ((write_of st buffer).state ≡ st)
      × (buffer_of_write st buffer ≡ encode st.plan ++ drop (length (encode st.plan)) buffer)
  pub run : (engine : Engine) (budget : ℕ) → (run_of engine st budget buffer).number ≡ 0
      → ((run_of engine st budget buffer).status ≡ status_number (status_of st.plan (after_run st.plan engine budget st.run)))
      × ((run_of engine st budget buffer).integrator ≡ status_integrator (status_of st.plan (after_run st.plan engine budget st.run)))
      × ((run_of engine st budget buffer).written ≡ length (events_of_run st.plan engine budget st.run))
      × ((run_of engine st budget buffer).state ≡ record { plan = st.plan; run = after_run st.plan engine budget st.run })
      × (buffer_of_run engine st budget buffer
      ≡ events_of_run st.plan engine budget st.run ++ drop (length (events_of_run st.plan engine budget st.run)) buffer)
  -- "Position call: x+s×(c−l) for a numbered integrator"
  pub position : (i : ℕ) → (positioned_of st i).number ≡ 0
      → ((positioned_of st i).value ≡ int_at st.run.x i +ℤ int_at st.run.s i *ℤ pos (st.run.clocks.clock - nat_at st.run.l i))
      × ((positioned_of st i).state ≡ st)

abbrev pub Accepted : Type 0
Accepted = (st : State) (buffer : List ℕ) → AcceptedPromise st buffer

-- what is written fits, and no call changes a buffer's length
pub record BufferPromise (st : State) (buffer : List ℕ) : Type 0 where
  pub write_fits : (write_of st buffer).length ≤ length buffer
  pub run_fits : (engine : Engine) (budget : ℕ) → (run_of engine st budget buffer).written ≤ length buffer
  pub write-size : length (buffer_of_write st buffer) ≡ length buffer
  pub run-size : (engine : Engine) (budget : ℕ) → length (buffer_of_run engine st budget buffer) ≡ length buffer
  -- a buffer of bytes stays one
  pub write_bytes : Bytes buffer → Bytes (buffer_of_write st buffer)
  pub run-bytes : (engine : Engine) (budget : ℕ) → Bytes buffer → Bytes (buffer_of_run engine st budget buffer)

abbrev pub EveryBuffer : Type 0
EveryBuffer = (st : State) (buffer : List ℕ) → BufferPromise st buffer

-- declined calls leave state and buffer as they were, and every other figure is 0
pub record DeclinedPromise (st : State) (buffer : List ℕ) : Type 0 where
  pub write : ((write_of st buffer).number ≡ 0 → ⊥) → ((write_of st buffer).length ≡ 0) × ((write_of st buffer).state ≡ st) × (buffer_of_write st buffer ≡ buffer)
  pub run : (engine : Engine) (budget : ℕ) → ((run_of engine st budget buffer).number ≡ 0 → ⊥)
      → ((run_of engine st budget buffer).status ≡ 0) × ((run_of engine st budget buffer).integrator ≡ 0) × ((run_of engine st budget buffer).written ≡ 0)
      × ((run_of engine st budget buffer).state ≡ st) × (buffer_of_run engine st budget buffer ≡ buffer)
  pub position : (i : ℕ) → ((positioned_of st i).number ≡ 0 → ⊥) → ((positioned_of st i).value ≡ pos 0) × ((positioned_of st i).state ≡ st)

abbrev pub Declined : Type 0
Declined = (st : State) (buffer : List ℕ) → DeclinedPromise st buffer
