-- Laws: the answers of the runs by the cases that their code tells apart. Assumes nothing.
use Rattle.std.specs.Prelude.{◌≡◌, true, false, List, ℕ, ◌≤◌, ◌<◌, length, Result, Ok, Err}
use Rattle.std.proofs.Common.{ap, ◌∙◌, zero-add}
use borrow.Author.Tests.{le-leb, lt-leb}
use Rattle.plan.specs.Refusals.{refusal_number}
use Rattle.plan.specs.declared.Plan.{Plan}
use Rattle.plan.specs.declared.Refusal.{Refusal}
use Rattle.plan.specs.declared.Refusal.TheVariants.{Unsound, Budget, RunBuffer}
use Rattle.machine.specs.SoundTest.{is_sound}
use Rattle.machine.proofs.Laws.SoundTest.{sound_means}
use Rattle.machine.specs.declared.State.{State}
use Rattle.machine.specs.Runs.{events_of_run, room_of}
use Rattle.machine.specs.declared.Engine.{Engine}
use Rattle.steps.specs.Events.{put_at}
use Rattle.soundness.specs.Testing.{sound_with}
use Rattle.soundness.specs.declared.Tested.{Tested}
use Rattle.engine.specs.RunAnswer.{ended_of, RunReady}
use Rattle.engine.specs.declared.runs.Ended.{Ended}
use Rattle.calls.specs.Calls.{run_number_if_sound, run_number, ran_state, ran_events}
use Rattle.calls.specs.Calls.{run_of, buffer_of_run}
use Rattle.runcalls.specs.Answers.{RunAnswered}

module _ (engine : Engine) (st : State) (budget : ℕ) (buffer : List ℕ) where
  abbrev RanAs : Result Ended Refusal → List ℕ → Type 0
  RanAs w after = RunAnswered engine st budget buffer w after

  pub run-unsound : is_sound st ≡ false → RanAs (Err Unsound) buffer
  unfolding run_of buffer_of_run run_number refusal_number
  run-unsound e = (rw e, rw e)

  module _ (yes : is_sound st ≡ true) where
    pub run-above : 1024 < budget → RanAs (Err Budget) buffer
    unfolding run_of buffer_of_run run_number run_number_if_sound refusal_number
    run-above h = let above = lt-leb budget 1024 h in (rw (yes, above), rw (yes, above))

    module _ (few : budget ≤ 1024) where
      pub run_short : length buffer < room_of st.plan budget → RanAs (Err RunBuffer) buffer
      unfolding run_of buffer_of_run run_number run_number_if_sound refusal_number
      run_short h =
          let within = le-leb budget 1024 few in let short = lt-leb (room_of st.plan budget) (length buffer) h in
          (rw (yes, within, short), rw (yes, within, short))

      module _ (room : room_of st.plan budget ≤ length buffer) where
        -- with the tables that the test of the state hands on
        pub run-ready : {t : Tested} → t ≡ sound_with st.plan st.run → RunReady st.plan st.run t.ranges t.values budget (length buffer)
        run-ready tables =
            record {
              sound = (sound_means st).0 yes;
              ranges_are = ap (λ (t : Tested). t.ranges) tables;
              values_are = ap (λ (t : Tested). t.values) tables;
              room = room;
            }

        -- from what the engine's run answers, and the buffer that it leaves
        pub run-accepted : {ended : Ended} {after : List ℕ} → ended ≡ ended_of st.plan engine budget st.run
            → after ≡ put_at buffer 0 (events_of_run st.plan engine budget st.run) → RanAs (Ok ended) after
        unfolding run_of buffer_of_run run_number run_number_if_sound ran_state ran_events ended_of put_at
        run-accepted e a =
            let within = le-leb budget 1024 few in
            let enough = le-leb (room_of st.plan budget) (length buffer) room in
            (rw (e, yes, within, enough), a ∙ rw (yes, within, enough, zero-add))
