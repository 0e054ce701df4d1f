-- Proof: the limits of docs/LIMITS.md: of files, of states and of what the calls answer. Assumes nothing.
use Rattle.std.specs.Prelude.{◌≡◌, List, ℕ, ◌^◌, ◌<◌, ℤ, length}
use Rattle.std.proofs.Math.Nat.{le_trans}
use Rattle.std.proofs.Common.{arith, eq-eqb}
use Rattle.integers.specs.Parts.{∣◌∣}
use Rattle.words.specs.Word.{Bytes}
use Rattle.plan.proofs.Laws.FileRefusals.{number-below, entry-below, accepted-offsets, accepted-sizes}
use Rattle.plan.proofs.Laws.CountLimits.{CountLimits, count-limits}
use Rattle.plan.proofs.Laws.Layout.{file_least, file_most}
use Rattle.plan.proofs.Laws.Parts.{offset_lt, length_lt, section_end, length_most, file_limits}
use Rattle.plan.proofs.Laws.View.{length-shown, start-shown}
use Rattle.machine.specs.Reach.{is_due, gives}
use Rattle.machine.specs.Instant.{position_at, next_tick_of}
use Rattle.machine.specs.Runs.{events_most, room_of}
use Rattle.machine.specs.Sound.{Sound}
use Rattle.machine.specs.Status.{status_of}
use Rattle.machine.proofs.Laws.Lengths.{run-bytes}
use Rattle.machine.proofs.Laws.Positions.{position-size}
use Rattle.machine.proofs.Laws.SoundTest.{words_clauses}
use Rattle.machine.proofs.Laws.Status.{number-most, integrator-most}
use Rattle.machine.specs.declared.State.{State}
use Rattle.machine.specs.declared.Engine.{Engine}
use Rattle.calls.specs.Calls.{load_of, write_number, write_of, run_number, ran_state, ran_events, run_of, position_number}
use Rattle.calls.specs.Calls.{positioned_of}
use Rattle.calls.specs.Limits.{RunLimits, AcceptedLimits, FileLimits, AnswerLimits}
use Rattle.calls.specs.Promises.Limits.{LimitPromise}
use Rattle.calls.proofs.Proofs.Files.{load_accepted}
use Rattle.calls.proofs.Proofs.CallNumbers.{accept-cases, figure_most, write-most, write_zero, run-most, run_zero, position-most, position_zero}
use Rattle.calls.proofs.Proofs.StateLimits.{rate-limits, level-limits, room_most, state-limits}

-- ---- files
accepted-limits : (file : List ℕ) → (load_of file).number ≡ 0 → AcceptedLimits file
accepted-limits file e =
    let yes = load_accepted file e in
    let limits = file_limits file (accepted-sizes file yes) (accepted-offsets file yes) in
    record {
      shortest = limits.0;
      longest = limits.1;
      view = λ k h. rw (length-shown file k yes (omega arith)) (length_most file (accepted-sizes file yes) k (omega arith));
      view-end = λ k h.
          rw (length-shown file k yes (omega arith), start-shown file k yes (omega arith)) (section_end file (accepted-offsets file yes) k (omega arith));
    }

any_limits : (file : List ℕ) → Bytes file → FileLimits file
unfolding load_of
any_limits file b =
    record {
      offset = offset_lt file b;
      size = length_lt file b;
      end = λ k. omega (arith, offset_lt file b k, length_lt file b k);
      number = number-below file;
      entry = entry-below file;
    }

-- ---- what the calls answer
module _ (st : State) where
  counts_by : Sound st → CountLimits st.plan
  counts_by s = count-limits st.plan s.plan.counts

  run-limits : (engine : Engine) (budget : ℕ) (buffer : List ℕ) → RunLimits (run_of engine st budget buffer)
  unfolding run_of status_of room_of events_most ran_events
  run-limits engine budget buffer =
      let p = st.plan in let r = (ran_state engine st budget).run in let t = next_tick_of p r in
      let number = run_number st budget (length buffer) in let tested = run_zero st budget (length buffer) in record {
        number = run-most st budget (length buffer);
        status = figure_most number 2 (λ e. number-most (status_of p r));
        integrator = figure_most number 31 (λ e. integrator-most p t (gives (is_due r.d t)) (position_at r t) (counts_by (tested e).0).n);
        written =
            figure_most number 491520
            (λ e. le_trans (run-bytes p engine budget st.run) (room_most p (counts_by (tested e).0) budget 1024 (tested e).1));
      }

  answer-limits : AnswerLimits st
  unfolding write_of positioned_of
  answer-limits =
      record {
        write = λ buffer. (
          write-most st (length buffer),
          figure_most (write_number st (length buffer)) 4492 (λ e. file_most st.plan (write_zero st (length buffer) e).0.plan.counts),
        );
        written = λ buffer e. rw (eq-eqb (write_number st (length buffer)) 0 e) (file_least st.plan (write_zero st (length buffer) e).0.plan.counts);
        position = λ i. (
          position-most st i,
          accept-cases {A = ℤ} (λ z. ∣ z ∣ < 2 ^ 31) (position_number st i)
              (λ e. let k = position_zero st i e in position-size st.plan st.run (words_clauses st.plan st.run k.0) i k.1) (omega arith),
        );
        run = run-limits;
      }

pub limits : LimitPromise
limits =
    record {
      accepted-files = accepted-limits;
      files = any_limits;
      rates = rate-limits;
      levels = λ p q i x s k a above below. level-limits p q i x s k a (record { above = above; below = below });
      states = λ st s. state-limits st.plan st.run (words_clauses st.plan st.run s);
      answers = answer-limits;
    }
