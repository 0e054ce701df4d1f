-- Proof: the promises about every call that takes a state: its number, what it answers and writes, and what a declined call leaves. Assumes
-- nothing.
use Rattle.std.specs.Prelude.{◌≡◌, refl, cond, List, ℕ, ◌≤◌, eqb, length}
use Rattle.std.proofs.Common.{le_trans, arith, length-append, length-drop, eq-eqb, ne_eqb, le-leb, lt-ltb, le-ltb}
use Rattle.std.proofs.lemmas.Bool.{lt-leb}
use Rattle.plan.specs.Encoding.{file_words, encode}
use Rattle.words.specs.Word.{Bytes}
use Rattle.words.proofs.Laws.Flat.{bytes-flat}
use Rattle.words.proofs.Laws.Reading.{bytes-append, bytes_drop}
use Rattle.plan.proofs.Laws.Layout.{length-encode}
use Rattle.machine.specs.Instant.{position_at}
use Rattle.machine.specs.Runs.{events_most, room_of, position_of}
use Rattle.machine.proofs.Laws.Lengths.{run-bytes, events_are_bytes}
use Rattle.machine.proofs.Laws.SoundTest.{sound_means}
use Rattle.calls.specs.Calls.{written_over, write_number, write_of, buffer_of_write, run_number_if_sound, run_number, ran_state, ran_events, run_of}
use Rattle.calls.specs.Calls.{buffer_of_run, position_number, positioned_of}
use Rattle.calls.specs.Promises.Calls.{EveryNumber, Accepted, EveryBuffer, Declined}
use Rattle.calls.proofs.Proofs.CallNumbers.{accept-cases, figure_most, unsound_test, write_zero, run_zero}

pub every-number : EveryNumber
unfolding write_of write_number run_of run_number run_number_if_sound room_of events_most positioned_of position_number
every-number st buffer =
    record {
      write-unsound = λ u. rw (unsound_test st u);
      write-short = λ s h. rw ((sound_means st).1 s, ← length-encode st.plan, lt-leb _ _ h);
      write-accepted = λ s h. rw ((sound_means st).1 s, ← length-encode st.plan, le-leb _ _ h);
      run-unsound = λ engine budget u. rw (unsound_test st u);
      run-above = λ engine budget s h. rw ((sound_means st).1 s, lt-leb _ _ h);
      run_short = λ engine budget s h l. rw ((sound_means st).1 s, le-leb _ _ h, lt-leb _ _ l);
      run-accepted = λ engine budget s h l. rw ((sound_means st).1 s, le-leb _ _ h, le-leb _ _ l);
      position-unsound = λ i u. rw (unsound_test st u);
      position-above = λ i s h. rw ((sound_means st).1 s, le-ltb _ _ h);
      position-accepted = λ i s h. rw ((sound_means st).1 s, lt-ltb _ _ h);
    }

pub accepted : Accepted
unfolding write_of buffer_of_write run_of ran_state buffer_of_run ran_events positioned_of position_of position_at
accepted st buffer =
    record {
      write = λ e. (rw (eq-eqb _ 0 e, length-encode st.plan), refl, rw (eq-eqb _ 0 e));
      run = λ engine budget e. let yes = eq-eqb _ 0 e in (rw yes, rw yes, rw yes, rw yes, rw yes);
      position = λ i e. (rw (eq-eqb _ 0 e), refl);
    }

-- the buffer of a call whose bytes fit it where it is accepted: as long as it was
length_then : (number : ℕ) (bytes buffer : List ℕ) → (number ≡ 0 → length bytes ≤ length buffer)
    → length (cond (eqb number 0) (written_over bytes buffer) buffer) ≡ length buffer
length_then number bytes buffer h =
    accept-cases {A = List ℕ} (λ b. length b ≡ length buffer) number (λ e. let l = h e in simp (length-append, length-drop) (omega arith)) refl

-- and it stays a buffer of bytes
bytes_then : (number : ℕ) (bytes buffer : List ℕ) → Bytes bytes → Bytes buffer → Bytes (cond (eqb number 0) (written_over bytes buffer) buffer)
bytes_then number bytes buffer b c =
    accept-cases {A = List ℕ} (λ s. Bytes s) number (λ e. bytes-append b (bytes_drop (length bytes) c)) c

pub every-buffer : EveryBuffer
unfolding write_of buffer_of_write run_of buffer_of_run ran_events room_of events_most encode
every-buffer st buffer =
    let room = length buffer in let size = length-encode st.plan in record {
      write_fits = figure_most (write_number st room) room (λ e. (write_zero st room e).1);
      run_fits = λ engine budget.
          figure_most (run_number st budget room) room (λ e. le_trans (run-bytes st.plan engine budget st.run) (run_zero st budget room e).2);
      write-size = length_then (write_number st room) (encode st.plan) buffer (λ e. omega (arith, size, (write_zero st room e).1));
      run-size = λ engine budget.
          length_then (run_number st budget room) (ran_events engine st budget) buffer
          (λ e. le_trans (run-bytes st.plan engine budget st.run) (run_zero st budget room e).2);
      write_bytes = bytes_then (write_number st room) (encode st.plan) buffer (bytes-flat (file_words st.plan));
      run-bytes = λ engine budget.
          bytes_then (run_number st budget room) (ran_events engine st budget) buffer (events_are_bytes st.plan engine budget st.run);
    }

pub declined : Declined
unfolding write_of buffer_of_write run_of buffer_of_run positioned_of
declined st buffer =
    record {
      write = λ d. (rw (ne_eqb _ 0 d), refl, rw (ne_eqb _ 0 d));
      run = λ engine budget d. let e = ne_eqb _ 0 d in (rw e, rw e, rw e, rw e, rw e);
      position = λ i d. (rw (ne_eqb _ 0 d), refl);
    }
