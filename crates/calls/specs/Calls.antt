-- Binding definition: what each public call answers, number, figures, state and buffer, by cases in the order of "When a call declines".
-- "An accepted call gives number 0 .. Other calls try 10 to 14 as named, accept if none of theirs is met, and else return number, 0 for
-- every other figure, and the state handed in; no buffer byte changes." The section view's answer is `section_of` of the crate `plan`, and
-- lies at `section_start`.
use Rattle.std.specs.Prelude.{cond, List, ◌++◌, ℕ, pos, leb, ltb, eqb, length, drop}
use Rattle.plan.specs.Numbers.{largest_budget, acceptance, refused_unsound, refused_budget, refused_run_buffer}
use Rattle.plan.specs.Numbers.{refused_write_buffer, refused_integrator_number}
use Rattle.plan.specs.Format.{plan_in}
use Rattle.plan.specs.Refusals.{number_of, entry_of, finding_of, accepted}
use Rattle.plan.specs.Encoding.{file_length, encode}
use Rattle.plan.specs.declared.Plan.{Plan}
use Rattle.machine.specs.Start.{start_state, idle_state}
use Rattle.machine.specs.Status.{status_number, status_integrator, status_of}
use Rattle.machine.specs.Runs.{after_run, events_of_run, room_of, position_of}
use Rattle.machine.specs.SoundTest.{is_sound}
use Rattle.machine.specs.declared.State.{State}
use Rattle.machine.specs.declared.Engine.{Engine}
use Rattle.calls.specs.declared.Loaded.{Loaded}
use Rattle.calls.specs.declared.Written.{Written}
use Rattle.calls.specs.declared.Ran.{Ran}
use Rattle.calls.specs.declared.Positioned.{Positioned}

-- the first bytes of a buffer replaced; "later bytes keep their value"
abbrev pub written_over : List ℕ → List ℕ → List ℕ
written_over bytes buffer = bytes ++ drop (length bytes) buffer

-- ---- load: 1 to 9. "Load tries 1 to 9 and returns number, lowest faulty entry of that section (0 for 1 to 4) and the idle state."
unfoldable pub load_of : List ℕ → Loaded
load_of file =
    record {
      number = number_of (finding_of file);
      entry = entry_of (finding_of file);
      state = cond (accepted file) (start_state (plan_in file)) idle_state;
    }

-- ---- plan writer: 10, 13
unfoldable pub write_number : State → ℕ → ℕ
write_number st room = cond (is_sound st) (cond (leb (file_length st.plan) room) acceptance refused_write_buffer) refused_unsound

-- "The writer writes the state's plan and returns the length; bytes after it keep their value."
unfoldable pub write_of : State → List ℕ → Written
write_of st buffer =
    record {
      number = write_number st (length buffer);
      length = cond (eqb (write_number st (length buffer)) acceptance) (file_length st.plan) 0;
      state = st;
    }

unfoldable pub buffer_of_write : State → List ℕ → List ℕ
buffer_of_write st buffer = cond (eqb (write_number st (length buffer)) acceptance) (written_over (encode st.plan) buffer) buffer

-- ---- runs: 10, 11, 12
-- what is left to decline once the state is sound: "A run's budget is above 1,024", then the buffer
unfoldable pub run_number_if_sound : Plan → ℕ → ℕ → ℕ
run_number_if_sound p budget room = cond (leb budget largest_budget) (cond (leb (room_of p budget) room) acceptance refused_run_buffer) refused_budget

unfoldable pub run_number : State → ℕ → ℕ → ℕ
run_number st budget room = cond (is_sound st) (run_number_if_sound st.plan budget room) refused_unsound

module _ (engine : Engine) (st : State) (budget : ℕ) where
  -- the state after an accepted run, and the bytes of its events
  unfoldable pub ran_state : State
  ran_state = record { plan = st.plan; run = after_run st.plan engine budget st.run }

  unfoldable pub ran_events : List ℕ
  ran_events = events_of_run st.plan engine budget st.run

  -- "answers status, integrator (0 unless range) and bytes written from the buffer's start; later bytes keep their value"
  unfoldable pub run_of : List ℕ → Ran
  run_of buffer =
      let accepts = eqb (run_number st budget (length buffer)) acceptance in
      record {
        number = run_number st budget (length buffer);
        status = cond accepts (status_number (status_of st.plan ran_state.run)) 0;
        integrator = cond accepts (status_integrator (status_of st.plan ran_state.run)) 0;
        written = cond accepts (length ran_events) 0;
        state = cond accepts ran_state st;
      }

  unfoldable pub buffer_of_run : List ℕ → List ℕ
  buffer_of_run buffer = cond (eqb (run_number st budget (length buffer)) acceptance) (written_over ran_events buffer) buffer

-- ---- position call: 10, 14
unfoldable pub position_number : State → ℕ → ℕ
position_number st i = cond (is_sound st) (cond (ltb i st.plan.counts.n) acceptance refused_integrator_number) refused_unsound

-- "Position call: x+s×(c−l) for a numbered integrator."
unfoldable pub positioned_of : State → ℕ → Positioned
positioned_of st i =
    record {
      number = position_number st i;
      value = cond (eqb (position_number st i) acceptance) (position_of st.run i) (pos 0);
      state = st;
    }
