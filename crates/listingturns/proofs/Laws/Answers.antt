-- Laws: the answers of the code by the cases that it tells apart. Assumes nothing.
use Rattle.std.specs.Prelude.{◌≡◌, List, [], ◌++◌, ℕ, ◌+◌, ◌*◌, ◌/◌, ◌≤◌, length, take, drop}
use Rattle.std.proofs.Common.{refl, sym, ap, ◌∙◌, append-nil, arith, length-append, take_at}
use borrow.Author.Tests.{eq-eqb, ne_eqb}
use Rattle.machine.specs.Status.{status_number, status_of, running_paused}
use Rattle.machine.specs.Runs.{events_most, room_of}
use Rattle.machine.specs.Sound.{Sound}
use Rattle.machine.proofs.Laws.SoundClauses.{SoundRunning}
use Rattle.machine.proofs.Laws.Status.{zero_paused, paused_zero, paused_false, is_paused_lem}
use Rattle.machine.specs.declared.State.{State}
use Rattle.machine.specs.declared.Engine.TheVariants.{Lazy}
use Rattle.machine.proofs.Laws.SoundTest.{words_clauses}
use Rattle.words.proofs.Laws.Putting.{behind, back, length_behind}
use Rattle.listingtext.specs.Lines.{lines_of, end_line, refusal_line}
use Rattle.listingtext.specs.Printed.{Printed}
use Rattle.listingtext.proofs.Laws.Lines.{lines_before}
use Rattle.listingtext.proofs.Laws.Printing.{length-printed, then_text, in_part}
use Rattle.calls.specs.Calls.{written_over, load_of, ran_state, ran_events, run_of, buffer_of_run}
use Rattle.calls.proofs.Proofs.All.{every_promise}
use Rattle.calls.proofs.Proofs.StateLimits.{state-limits}
use Rattle.calls.specs.declared.Loaded.{Loaded}
use Rattle.calls.specs.declared.Ran.{Ran}
use Rattle.listingturns.specs.Listing.{event_lines, end_line_of}
use Rattle.listingturns.specs.Turns.{turn_state, turn_more, turn_text, turn_of, begin_text, begin_of}
use Rattle.listingturns.specs.declared.Turn.TheVariants.{More, Last}
use Rattle.listingturns.proofs.Laws.Joined.{turns_end}
use Rattle.listingturns.proofs.Laws.Fits.{lines_fit, closing_fits}

-- ---- before the first turn
module _ (file : List ℕ) {loaded : Loaded} (e : loaded ≡ load_of file) where
  pub first-accepted : loaded.number ≡ 0 → (More loaded.state ≡ begin_of file) × ([] ≡ begin_text file)
  unfolding begin_of begin_text
  first-accepted z = let accepts = eq-eqb (load_of file).number 0 (rw e at z) in (rw (e, accepts), rw accepts)

  pub first-refused : (loaded.number ≡ 0 → ⊥) → (Last loaded.state ≡ begin_of file) × (refusal_line loaded.number loaded.entry ≡ begin_text file)
  unfolding begin_of begin_text
  first-refused n = let refuses = ne_eqb (load_of file).number 0 (rw e at n) in (rw (e, refuses), rw (e, refuses))

  -- the same of a text that goes into a buffer
  pub accepted_written : (text : List ℕ) → loaded.number ≡ 0 → (0 ≡ length (begin_text file)) × (text ≡ written_over (begin_text file) text)
  accepted_written text z = rw (← (first-accepted z).1) (refl, refl)

  pub refused_written : (loaded.number ≡ 0 → ⊥) → {text after : List ℕ} {size : ℕ} → Printed (refusal_line loaded.number loaded.entry) text size after
      → (size ≡ length (begin_text file)) × (after ≡ written_over (begin_text file) text)
  refused_written n p = let printed = rw (first-refused n).1 at p in (printed.size, printed.bytes)

-- ---- a turn, from what the run answers and the buffer that it leaves
module _ (st : State) (ok : Sound st) (buffer : List ℕ) (room : 30720 ≤ length buffer) {ran : Ran} {bytes : List ℕ} (e : ran ≡ run_of Lazy st 64 buffer)
    (b : bytes ≡ buffer_of_run Lazy st 64 buffer) where
  now_sound : SoundRunning st.plan st.run
  now_sound = words_clauses st.plan st.run ok

  next-sound : SoundRunning (turn_state st).plan (turn_state st).run
  next-sound = words_clauses (turn_state st).plan (turn_state st).run (turns_end st ok).sound

  -- it is accepted
  accepts : (run_of Lazy st 64 buffer).number ≡ 0
  unfolding room_of events_most
  accepts = (every_promise.every-number st buffer).run-accepted Lazy 64 ok (omega arith) (omega (arith, (state-limits st.plan st.run now_sound).listing))

  abbrev events : List ℕ
  events = ran_events Lazy st 64

  ran-status : ran.status ≡ status_number (status_of (turn_state st).plan (turn_state st).run)
  unfolding turn_state ran_state
  ran-status = rw e ((every_promise.accepted st buffer).run Lazy 64 accepts).0

  ran-written : ran.written ≡ length events
  unfolding ran_events
  ran-written = rw e ((every_promise.accepted st buffer).run Lazy 64 accepts).2

  pub ran_state_lem : ran.state ≡ turn_state st
  unfolding turn_state ran_state
  ran_state_lem = rw e ((every_promise.accepted st buffer).run Lazy 64 accepts).3

  pub ran-bytes : bytes ≡ written_over events buffer
  unfolding ran_events
  ran-bytes = rw b ((every_promise.accepted st buffer).run Lazy 64 accepts).4

  pub ran-inside : ran.written ≤ length bytes
  ran-inside = omega (arith, ran-written, ap length ran-bytes, length-append events (drop (length events) buffer))

  -- the lines that the code writes are those of the run's events
  abbrev pub lines : List ℕ
  lines = lines_of (take ran.written bytes) (length (take ran.written bytes) / 12)

  ran_lines : lines ≡ event_lines events
  unfolding event_lines
  ran_lines =
      let part : take ran.written bytes ≡ events = rw ran-bytes (take_at events (drop (length events) buffer) ran.written (sym ran-written)) in
      rw part

  pub lines_ready : length lines ≤ 66560
  unfolding ran_events
  lines_ready = rw ran_lines (lines_fit st.plan st.run now_sound)

  -- status 0: the lines alone
  pub turn_paused : ran.status ≡ 0 → (More ran.state ≡ turn_of st) × (lines ≡ turn_text st)
  unfolding turn_of turn_text turn_more
  turn_paused z =
      let more = is_paused_lem (turn_state st).plan (turn_state st).run (zero_paused _ (sym ran-status ∙ z)) in
      (rw (ran_state_lem, more), rw (ran_lines, more, append-nil))

  -- status 1 or 2: the end line behind them
  abbrev pub end : List ℕ
  end = end_line ran.status ran.state.run.clocks.clock ran.state.run.clocks.instants ran.state.run.clocks.updates

  end_is : end ≡ end_line_of (turn_state st).plan (turn_state st).run
  unfolding end_line_of
  end_is = rw (ran-status, ran_state_lem)

  pub end-ready : length end ≤ 40
  end-ready = rw end_is (closing_fits (turn_state st).plan (turn_state st).run next-sound)

  pub turn_stopped : (ran.status ≡ 0 → ⊥) → (Last ran.state ≡ turn_of st) × (lines ++ end ≡ turn_text st)
  unfolding turn_of turn_text turn_more running_paused
  turn_stopped n =
      let last = paused_false (status_of (turn_state st).plan (turn_state st).run) (λ p. n (ran-status ∙ paused_zero _ p)) in
      (rw (ran_state_lem, last), rw (ran_lines, end_is, last))

  -- ---- the same with the events' buffer for their bytes, and a text that goes into a buffer
  whole_lines : lines_of bytes (ran.written / 12) ≡ event_lines events
  unfolding event_lines
  whole_lines = rw (ran-bytes, ran-written) (lines_before events (drop (length events) buffer) (length events / 12) (omega arith))

  pub lines_most : length (lines_of bytes (ran.written / 12)) ≤ 66560
  unfolding ran_events
  lines_most = rw whole_lines (lines_fit st.plan st.run now_sound)

  pub lines_inside : {space : ℕ} → 66600 ≤ space → (12 * (ran.written / 12) ≤ length bytes) × (length (lines_of bytes (ran.written / 12)) ≤ space)
  lines_inside h = (omega (arith, ran-inside), omega (arith, lines_most))

  abbrev pub TurnWritten : List ℕ → List ℕ → Type 0
  TurnWritten text after = (bytes ≡ written_over events buffer) × (after ≡ written_over (turn_text st) text)

  module _ {text middle : List ℕ} (space : 66600 ≤ length text) {size : ℕ} (p : Printed (lines_of bytes (ran.written / 12)) text size middle) where
    -- status 0: the lines alone
    pub paused_written : ran.status ≡ 0 → (size ≡ length (turn_text st)) × TurnWritten text middle
    paused_written z =
        let same : event_lines events ≡ turn_text st = sym ran_lines ∙ (turn_paused z).1 in
        let printed = rw (whole_lines, same) at p in
        (printed.size, (ran-bytes, printed.bytes))

    -- status 1 or 2: the end line behind them
    size_inside : (size ≤ 66560) × (length middle ≡ length text)
    size_inside = (omega (arith, p.size, lines_most), length-printed p (omega (arith, lines_most)))

    pub end-place : size ≤ length middle
    end-place = omega (arith, size_inside)

    pub end-room : length end ≤ length (behind middle size)
    end-room = omega (arith, length_behind middle size, size_inside, end-ready)

    module _ {part : List ℕ} {more : ℕ} (q : Printed end (behind middle size) more part) where
      pub turn_length : size + more ≤ length text
      turn_length = omega (arith, size_inside, q.size, end-ready)

      pub stopped_written : (ran.status ≡ 0 → ⊥) → (size + more ≡ length (turn_text st)) × TurnWritten text (back middle size part)
      stopped_written n =
          let same : event_lines events ++ end ≡ turn_text st = rw ran_lines at (turn_stopped n).1 in
          let printed = rw (whole_lines, same) at (then_text p (in_part size end-place q)) in
          (printed.size, (ran-bytes, printed.bytes))
