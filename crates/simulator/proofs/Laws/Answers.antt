-- Laws: the answers of the calls by the cases that their code tells apart. Assumes nothing.
use Rattle.std.specs.Prelude.{◌≡◌, true, false, List, ℕ, ◌-◌, ◌≤◌, ◌<◌, ℤ, pos, ◌+ℤ◌, ◌*ℤ◌, length, Option, Some, None, Ok, Err}
use Rattle.std.specs.Option.{ok_or}
use Rattle.std.proofs.Math.Path.{sym, refl}
use Rattle.std.proofs.Common.{◌∙◌, arith}
use borrow.Author.Tests.{lt-ltb, le-ltb}
use Rattle.plan.specs.Numbers.{most_integrators}
use Rattle.plan.specs.Lists.{nat_at, int_at}
use Rattle.plan.proofs.Laws.CountLimits.{count-limits}
use Rattle.plan.specs.Format.{plan_in}
use Rattle.plan.specs.Refusals.{refusal_number, refusal_entry, number_of, entry_of, is_clean, finding_of, accepted}
use Rattle.plan.specs.declared.Refusal.{Refusal}
use Rattle.plan.specs.declared.Refusal.TheVariants.{Unsound, WriteBuffer, IntegratorNumber}
use Rattle.planwriter.specs.Plans.{plan_written, written_buffer}
use Rattle.planwriter.proofs.Laws.Plans.{written-short, written-whole}
use Rattle.machine.specs.Start.{start_state, idle_state}
use Rattle.machine.specs.SoundTest.{is_sound}
use Rattle.machine.proofs.Laws.SoundTest.{test_clauses}
use Rattle.machine.specs.declared.State.{State}
use Rattle.machine.specs.Instant.{position_at}
use Rattle.machine.specs.Runs.{position_of}
use Rattle.timing.specs.Ticks.{PositionReady}
use Rattle.timing.proofs.Laws.Statuses.{ready_at}
use Rattle.calls.specs.Calls.{load_of, write_number, write_of, buffer_of_write}
use Rattle.calls.specs.Calls.{position_number, positioned_of}
use Rattle.calls.specs.declared.Loaded.{Loaded}
use Rattle.simulator.specs.Answers.{WriteAnswered, PositionAnswered}

-- ---- load
module _ (file : List ℕ) where
  pub load_refused : accepted file ≡ false
      → ◌≡◌ {A = Loaded} (record { number = number_of (finding_of file); entry = entry_of (finding_of file); state = idle_state }) (load_of file)
  unfolding load_of
  load_refused e = rw e

  pub load_refused_with : {refusal : Refusal} → finding_of file ≡ Err refusal
      → ◌≡◌ {A = Loaded} (record { number = refusal_number refusal; entry = refusal_entry refusal; state = idle_state }) (load_of file)
  unfolding load_of accepted is_clean number_of entry_of
  load_refused_with e = rw e

  pub load_accepted : finding_of file ≡ Ok tt → ◌≡◌ {A = Loaded} (record { number = 0; entry = 0; state = start_state (plan_in file) }) (load_of file)
  unfolding load_of accepted is_clean number_of entry_of
  load_accepted e = rw e

-- ---- plan writer
module _ (st : State) (buffer : List ℕ) where
  pub write-unsound : is_sound st ≡ false → WriteAnswered st buffer (Err Unsound) buffer
  unfolding write_of buffer_of_write write_number refusal_number
  write-unsound e = (rw e, rw e)

  module _ (yes : is_sound st ≡ true) {written : Option ℕ} {after : List ℕ} (w : written ≡ plan_written st.plan (length buffer))
      (a : after ≡ written_buffer st.plan buffer) where
    pub write-short : written ≡ None → WriteAnswered st buffer (Err WriteBuffer) after
    unfolding write_of buffer_of_write write_number written_buffer refusal_number
    write-short e = let short = written-short st.plan (length buffer) (sym w ∙ e) in (rw (yes, short), a ∙ sym (rw (yes, short)))

    pub write-whole : {size : ℕ} → written ≡ Some size → WriteAnswered st buffer (Ok size) after
    unfolding write_of buffer_of_write write_number written_buffer
    write-whole e =
        let whole = written-whole st.plan (length buffer) (sym w ∙ e) in
        (rw (whole.1, yes, whole.0), a ∙ sym (rw (yes, whole.0)))

    pub write-answered : WriteAnswered st buffer (ok_or written WriteBuffer) after
    write-answered = go written refl
      where
        go : (o : Option ℕ) → written ≡ o → WriteAnswered st buffer (ok_or o WriteBuffer) after
        go None e = write-short e
        go (Some size) e = write-whole e

-- ---- position call
module _ (st : State) (i : ℕ) where
  pub position-unsound : is_sound st ≡ false → PositionAnswered st i (Err Unsound)
  unfolding positioned_of position_number refusal_number
  position-unsound e = rw e

  module _ (yes : is_sound st ≡ true) where
    pub position-above : st.plan.counts.n ≤ i → PositionAnswered st i (Err IntegratorNumber)
    unfolding positioned_of position_number refusal_number
    position-above h = rw (yes, le-ltb i st.plan.counts.n h)

    module _ (known : i < st.plan.counts.n) where
      pub in-range : i < most_integrators
      in-range = omega (arith, known, (count-limits st.plan ((test_clauses st).0 yes).plan.counts).n)

      pub position-ready : PositionReady (int_at st.run.x i) (int_at st.run.s i) (nat_at st.run.l i) st.run.clocks.clock
      position-ready =
          let sound = (test_clauses st).0 yes in
          ready_at st.plan st.run sound st.run.clocks.clock (omega arith) i known (omega (arith, (sound.integrators i known).ahead))

      pub position-known : PositionAnswered st i (Ok (int_at st.run.x i +ℤ int_at st.run.s i *ℤ pos (st.run.clocks.clock - nat_at st.run.l i)))
      unfolding positioned_of position_number position_of position_at
      position-known = rw (yes, lt-ltb i st.plan.counts.n known)
