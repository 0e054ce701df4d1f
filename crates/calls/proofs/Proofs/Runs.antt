-- Proof: runs leave sound states, and an accepted run that is paused has moved the clock on. Assumes nothing.
use Rattle.std.specs.Prelude.{◌≡◌, ℕ, zero, suc, ◌≤◌, ◌<◌, length, replicate}
use Rattle.std.proofs.Common.{sym, ◌∙◌, arith, eq-eqb}
use Rattle.calls.specs.Calls.{run_of}
use Rattle.calls.proofs.Proofs.CallNumbers.{run_zero}
use Rattle.plan.specs.declared.Plan.{Plan}
use Rattle.machine.specs.Status.{status_number, status_of}
use Rattle.machine.specs.Sound.{RunningWidths}
use Rattle.machine.proofs.Laws.SoundClauses.{SoundRunning}
use Rattle.machine.proofs.Laws.Shapes.{after_shaped}
use Rattle.machine.proofs.Laws.SoundTest.{clauses_words, words_clauses}
use Rattle.machine.proofs.Laws.Status.{zero_paused, is_paused_lem}
use Rattle.machine.proofs.Laws.Runs.{after_by, clock-moves}
use Rattle.machine.specs.declared.Running.{Running}
use Rattle.machine.specs.declared.State.{State}
use Rattle.calls.specs.Calls.{run_number, ran_state, run_of}
use Rattle.calls.specs.Lists.{Call, answer_of, accepted_budget}
use Rattle.calls.specs.Promises.States.{RunSound, RunMoves, RunWidths}
use Rattle.calls.proofs.Proofs.CallNumbers.{accept-cases}
use Rattle.calls.proofs.Proofs.Schedule.{at, fed, fed_by, call_after, next-sound}
use Rattle.calls.proofs.Proofs.ListCalls.{call_promise}

pub run_sound : RunSound
unfolding answer_of
run_sound engine st budget buffer ok =
    let c : Call = record { engine = engine; budget = budget; buffer = buffer } in let clauses = words_clauses st.plan st.run ok in
    rw (call_after st.plan st.run c clauses) (clauses_words st.plan _ (next-sound st.plan st.run c clauses))

pub run-widths : RunWidths
unfolding run_of ran_state
run-widths engine st budget buffer h =
    accept-cases (λ (s : State). RunningWidths s.run) (run_number st budget (length buffer))
    (λ e. after_shaped st.plan engine budget st.run h) h

module _ (p : Plan) (r : Running) (ok : SoundRunning p r) (c : Call) where
  clock_then : (answer_of (at p r) c).number ≡ 0 → 1 ≤ c.budget → (answer_of (at p r) c).status ≡ 0 → r.clocks.clock < (answer_of (at p r) c).state.run.clocks.clock
  unfolding accepted_budget
  clock_then accepts some paused =
      rw (call_after p r c ok) (by (fed p c) fed_is (rw (call_after p r c ok) at (sym ((call_promise p r ok c).status accepts) ∙ paused)))
    where
      fed_is : c.budget ≡ fed p c
      fed_is = rw (eq-eqb (answer_of (at p r) c).number 0 accepts) at (fed_by p r c ok)

      by : (k : ℕ) → c.budget ≡ k → status_number (status_of p (after_by p (replicate k c.engine) r)) ≡ 0
          → r.clocks.clock < (after_by p (replicate k c.engine) r).clocks.clock
      by zero e s = absurd (omega arith)
      by (suc k) e s = clock-moves p c.engine (replicate k c.engine) r ok (is_paused_lem p (after_by p (replicate (suc k) c.engine) r) (zero_paused _ s))

pub run-moves : RunMoves
unfolding answer_of run_of
run-moves engine st budget buffer accepts some paused =
    clock_then st.plan st.run (words_clauses st.plan st.run (run_zero st budget (length buffer) accepts).0)
    (record { engine = engine; budget = budget; buffer = buffer }) accepts some paused
