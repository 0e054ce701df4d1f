-- Proof: a list of run calls from a sound state, instant by instant: which engine takes each. The calls answer what the run by that list of
-- engines gives. Assumes nothing.
use Rattle.std.specs.Prelude.{◌≡◌, Bool, leb, eqb, length, take, drop, replicate}
use Rattle.std.proofs.Math.Path.{refl}
use Rattle.std.proofs.Common.{ap, ◌∙◌, arith, length-append, leb-true, le-leb}
use Rattle.std.proofs.Math.Bool.{true, false, cond}
use mathlib.Core.List.{List, [], ◌∷◌, ◌++◌}
use Prim.Native.Nat.{ℕ, ◌+◌, ◌≤◌}
use Rattle.std.proofs.lemmas.List.{length-replicate}
use Rattle.std.proofs.Math.Seq.{take-append_seam}
use Rattle.plan.specs.declared.Plan.{Plan}
use Rattle.machine.specs.Runs.{after_run, events_of_run, events_most, room_of}
use Rattle.machine.proofs.Laws.SoundClauses.{SoundRunning}
use Rattle.machine.proofs.Laws.SoundTest.{test_clauses}
use Rattle.machine.proofs.Laws.Runs.{after_by, events_by, after_by_lem, events_by_lem, after_append, events-append, run_sound}
use Rattle.machine.specs.declared.Running.{Running}
use Rattle.machine.specs.declared.State.{State}
use Rattle.machine.specs.declared.Engine.{Engine}
use Rattle.calls.specs.Calls.{written_over, run_number_if_sound, run_number, ran_state, ran_events, run_of, buffer_of_run}
use Rattle.calls.specs.Lists.{Call, answer_of, buffer_of, accepted_budget, after_calls, budget_sum, joined_bytes}

-- a state of plan p
abbrev pub at : Plan → Running → State
at p r = record { plan = p; run = r }

-- ---- one call, on any state: it runs for what it feeds the plain machine
module _ (p : Plan) (r : Running) (c : Call) where
  pub call-state : (answer_of (at p r) c).state ≡ at p (after_run p c.engine (accepted_budget (at p r) c) r)
  unfolding answer_of accepted_budget run_of ran_state after_run
  call-state = go (eqb (run_number (at p r) c.budget (length c.buffer)) 0)
    where
      go : (b : Bool) → cond b (at p (after_run p c.engine c.budget r)) (at p r) ≡ at p (after_run p c.engine (cond b c.budget 0) r)
      go true = refl
      go false = refl

  pub call-bytes : take (answer_of (at p r) c).written (buffer_of (at p r) c) ≡ events_of_run p c.engine (accepted_budget (at p r) c) r
  unfolding answer_of buffer_of accepted_budget run_of buffer_of_run ran_events events_of_run
  call-bytes = go (eqb (run_number (at p r) c.budget (length c.buffer)) 0)
    where
      bytes : List ℕ
      bytes = events_of_run p c.engine c.budget r

      go : (b : Bool) → take (cond b (length bytes) 0) (cond b (written_over bytes c.buffer) c.buffer) ≡ events_of_run p c.engine (cond b c.budget 0) r
      go true = take-append_seam bytes (drop (length bytes) c.buffer)
      go false = refl

-- ---- on a sound state the plan and the call alone settle what is accepted
unfoldable pub fed : Plan → Call → ℕ
fed p c = cond (eqb (run_number_if_sound p c.budget (length c.buffer)) 0) c.budget 0

unfoldable pub schedule : Plan → List Call → List Engine
schedule p [] = []
schedule p (c ∷ calls) = replicate (fed p c) c.engine ++ schedule p calls

-- the first call's instants, and those of the later ones
pub schedule_length : (p : Plan) (c : Call) (calls : List Call) → length (schedule p (c ∷ calls)) ≡ fed p c + length (schedule p calls)
unfolding schedule
schedule_length p c calls =
    length-append (replicate (fed p c) c.engine) (schedule p calls) ∙ rw (length-replicate (fed p c) c.engine)

pub run_number_lem : (st : State) (c : Call) → SoundRunning st.plan st.run → (answer_of st c).number ≡ run_number_if_sound st.plan c.budget (length c.buffer)
unfolding answer_of run_of run_number
run_number_lem st c ok = rw ((test_clauses st).1 ok)

-- a smaller budget is accepted where a larger one is
pub fed_less : (p : Plan) (c : Call) (b : ℕ) → b ≤ fed p c → fed p (record { engine = c.engine; budget = b; buffer = c.buffer }) ≡ b
unfolding fed run_number_if_sound room_of
fed_less p c b = go (leb c.budget 1024) (leb (room_of p c.budget) (length c.buffer)) refl refl
  where
    zero_fed : b ≤ 0 → cond (eqb (cond (leb b 1024) (cond (leb (room_of p b) (length c.buffer)) 0 12) 11) 0) b 0 ≡ b
    zero_fed h =
        let none : b ≡ 0 = omega arith in
        rw (none, le-leb (room_of p 0) (length c.buffer) (omega arith))

    go : (s t : Bool) → leb c.budget 1024 ≡ s → leb (room_of p c.budget) (length c.buffer) ≡ t
        → b ≤ cond (eqb (cond s (cond t 0 12) 11) 0) c.budget 0
        → cond (eqb (cond (leb b 1024) (cond (leb (room_of p b) (length c.buffer)) 0 12) 11) 0) b 0 ≡ b
    go true true e f h =
        let small = leb-true c.budget 1024 e in
        let room = leb-true (room_of p c.budget) (length c.buffer) f in
        rw (le-leb b 1024 (omega arith), le-leb (room_of p b) (length c.buffer) (less room))
      where
        less : room_of p c.budget ≤ length c.buffer → room_of p b ≤ length c.buffer
        less room = omega (arith, native.Mathlib.Nat.mul-le-mul_right (events_most p) h)
    go true false e f h = zero_fed h
    go false t e f h = zero_fed h

module _ (p : Plan) where
  -- one call from a sound state
  module _ (r : Running) (c : Call) (ok : SoundRunning p r) where
    pub fed_by : accepted_budget (at p r) c ≡ fed p c
    unfolding accepted_budget fed
    fed_by = rw (run_number_lem (at p r) c ok)

    pub call_after : (answer_of (at p r) c).state ≡ at p (after_by p (replicate (fed p c) c.engine) r)
    call_after = call-state p r c ∙ rw (fed_by, after_by_lem p c.engine (fed p c) r)

    pub call-events : take (answer_of (at p r) c).written (buffer_of (at p r) c) ≡ events_by p (replicate (fed p c) c.engine) r
    call-events = call-bytes p r c ∙ rw (fed_by, events_by_lem p c.engine (fed p c) r)

    -- where the list goes on
    abbrev pub next : Running
    next = after_by p (replicate (fed p c) c.engine) r

    pub next-sound : SoundRunning p next
    next-sound = run_sound p (replicate (fed p c) c.engine) r ok

  -- ---- a list of calls
  pub calls_state : (calls : List Call) (r : Running) → SoundRunning p r → after_calls (at p r) calls ≡ at p (after_by p (schedule p calls) r)
  unfolding after_calls schedule after_by
  calls_state [] r ok = refl
  calls_state (c ∷ calls) r ok =
      rw (call_after r c ok, after_append p (replicate (fed p c) c.engine) (schedule p calls) r)
      (calls_state calls (next r c ok) (next-sound r c ok))

  pub calls_sum : (calls : List Call) (r : Running) → SoundRunning p r → budget_sum (at p r) calls ≡ length (schedule p calls)
  unfolding budget_sum schedule
  calls_sum [] r ok = refl
  calls_sum (c ∷ calls) r ok =
      rw (schedule_length p c calls, fed_by r c ok, call_after r c ok)
      (ap (λ (k : ℕ). fed p c + k) (calls_sum calls (next r c ok) (next-sound r c ok)))

  pub calls_bytes : (calls : List Call) (r : Running) → SoundRunning p r → joined_bytes (at p r) calls ≡ events_by p (schedule p calls) r
  unfolding joined_bytes schedule events_by
  calls_bytes [] r ok = refl
  calls_bytes (c ∷ calls) r ok =
      rw (call-events r c ok, call_after r c ok, events-append p (replicate (fed p c) c.engine) (schedule p calls) r)
      (ap (λ (ys : List ℕ). events_by p (replicate (fed p c) c.engine) r ++ ys) (calls_bytes calls (next r c ok) (next-sound r c ok)))
