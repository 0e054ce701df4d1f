-- Proof: what a run call of a list answers in itself, from a sound state. Assumes nothing.
use Rattle.std.specs.Prelude.{◌≡◌, Bool, cond, ℕ, eqb, length}
use Rattle.std.proofs.Math.Path.{refl}
use Rattle.std.proofs.Math.Bool.{true, false}
use mathlib.Core.List.{List}
use Rattle.std.proofs.Math.ListN.{drop}
use Rattle.std.proofs.Math.Seq.{drop-append_seam}
use Rattle.std.proofs.Common.{eq-eqb}
use Rattle.plan.specs.declared.Plan.{Plan}
use Rattle.machine.specs.Runs.{events_most, room_of}
use Rattle.machine.proofs.Laws.SoundClauses.{SoundRunning}
use Rattle.machine.proofs.Laws.SoundTest.{clauses_words}
use Rattle.machine.specs.declared.Running.{Running}
use Rattle.calls.specs.Calls.{written_over, run_number, ran_state, ran_events, run_of, buffer_of_run}
use Rattle.calls.specs.Lists.{Call, answer_of, buffer_of}
use Rattle.calls.specs.Promises.Lists.{CallPromise}
use Rattle.calls.proofs.Proofs.Calls.{every-number, every-buffer, declined}
use Rattle.calls.proofs.Proofs.Schedule.{at}

module _ (p : Plan) (r : Running) (ok : SoundRunning p r) where
  pub call_promise : (c : Call) → CallPromise p (at p r) c (answer_of (at p r) c) (buffer_of (at p r) c)
  unfolding answer_of buffer_of run_of ran_state buffer_of_run room_of events_most
  call_promise c =
      let numbers = every-number (at p r) c.buffer in let sound = clauses_words p r ok in
      record {
        above = numbers.run-above c.engine c.budget sound;
        short = numbers.run_short c.engine c.budget sound;
        accepted = numbers.run-accepted c.engine c.budget sound;
        status = λ e. rw (eq-eqb (run_number (at p r) c.budget (length c.buffer)) 0 e);
        integrator = λ e. rw (eq-eqb (run_number (at p r) c.budget (length c.buffer)) 0 e);
        size = (every-buffer (at p r) c.buffer).run-size c.engine c.budget;
        written = (every-buffer (at p r) c.buffer).run_fits c.engine c.budget;
        later = kept (eqb (run_number (at p r) c.budget (length c.buffer)) 0) (ran_events c.engine (at p r) c.budget);
        declined = λ d. let all = (declined (at p r) c.buffer).run c.engine c.budget d in (all.3, all.4);
      }
    where
      kept : (b : Bool) (bytes : List ℕ)
          → drop (cond b (length bytes) 0) (cond b (written_over bytes c.buffer) c.buffer) ≡ drop (cond b (length bytes) 0) c.buffer
      kept true bytes = drop-append_seam bytes (drop (length bytes) c.buffer)
      kept false bytes = refl
