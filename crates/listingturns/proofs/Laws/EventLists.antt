-- Laws: the events of a run are whole events of 12 bytes, with sources of two digits at most. Assumes nothing.
use Rattle.std.specs.Prelude.{◌≡◌, refl, Bool, cond, List, [], ◌++◌, ℤ, ltb, length}
use Rattle.std.proofs.Math.Bool.{true, false}
use Prim.Native.Nat.{ℕ, zero, suc, ◌+◌, ◌-◌, ◌*◌, ◌^◌, ◌≤◌, ◌<◌}
use Rattle.std.proofs.Common.{arith, length-append, ltb-true, ltb-false}
use Rattle.words.specs.Word.{word}
use Rattle.words.proofs.Laws.Reading.{number_before, number_behind}
use Rattle.plan.specs.Lists.{joined}
use Rattle.plan.specs.declared.Plan.{Plan}
use Rattle.machine.specs.Values.{value_with}
use Rattle.machine.specs.Held.{held_of}
use Rattle.machine.specs.Reach.{is_due, changes}
use Rattle.machine.specs.Instant.{position_at, bytes_of_event, events_at, outcome, next_tick_of, instant, events_of}
use Rattle.machine.specs.Status.{running_paused}
use Rattle.machine.specs.Runs.{events_of_run}
use Rattle.machine.proofs.Laws.EventWords.{length-event, event-source}
use Rattle.machine.proofs.Laws.OutcomeEvents.{outcome_is}
use Rattle.machine.specs.declared.Running.{Running}
use Rattle.machine.specs.declared.Engine.{Engine}

pub record EventList (bytes : List ℕ) : Type 0 where
  pub count : ℕ
  pub size : length bytes ≡ 12 * count
  pub sources : (i : ℕ) → i < count → word bytes (12 * i + 4) < 10 ^ 2

none : EventList []
none = record { count = 0; size = refl; sources = λ i h. absurd (omega arith) }

one : (t i : ℕ) (value : ℤ) → i < 10 ^ 2 → EventList (bytes_of_event t i value)
one t i value h = record { count = 1; size = length-event t i value; sources = go }
  where
    go : (j : ℕ) → j < 1 → word (bytes_of_event t i value) (12 * j + 4) < 10 ^ 2
    go zero l = rw (event-source t i value (omega arith)) h
    go (suc j) l = absurd (omega arith)

both : {front rest : List ℕ} → EventList front → EventList rest → EventList (front ++ rest)
both {front} {rest} a b =
    record { count = a.count + b.count; size = omega (arith, length-append front rest, a.size, b.size); sources = λ i h. go i h (ltb i a.count) refl }
  where
    go : (i : ℕ) → i < a.count + b.count → (inside : Bool) → ltb i a.count ≡ inside
        → word (front ++ rest) (12 * i + 4) < 10 ^ 2
    go i h true e =
        let l = ltb-true i a.count e in
        rw (number_before 4 front rest (12 * i + 4) (omega (arith, a.size))) (a.sources i l)
    go i h false e =
        let l = ltb-false i a.count e in
        rw (number_behind 4 front rest (12 * (i - a.count) + 4) (12 * i + 4) (omega (arith, a.size))) (b.sources (i - a.count) (omega arith))

-- ---- the events of an instant, and of a run
chosen : (test : ℕ → Bool) (t : ℕ) (value : ℕ → ℤ) (n : ℕ) → n ≤ 10 ^ 2 → EventList (joined (λ i. cond (test i) (bytes_of_event t i (value i)) []) n)
unfolding joined
chosen test t value zero h = none
chosen test t value (suc n) h = both (chosen test t value n (omega arith)) (go (test n))
  where
    go : (b : Bool) → EventList (cond b (bytes_of_event t n (value n)) [])
    go true = one t n (value n) (omega arith)
    go false = none

module _ (p : Plan) (few : p.counts.n + p.counts.m ≤ 10 ^ 2) where
  instant-list : (r : Running) → EventList (events_of p r)
  unfolding events_of events_at
  instant-list r =
      let t = next_tick_of p r in let then = (outcome p r t).held in
      rw (outcome_is p t (is_due r.d t) (position_at r t) (held_of r))
      (chosen (changes p r.d t) t (λ i. value_with p then.q then.inputs zero i) (p.counts.n + p.counts.m) few)

  pub run-list : (engine : Engine) (b : ℕ) (r : Running) → EventList (events_of_run p engine b r)
  unfolding events_of_run
  run-list engine zero r = none
  run-list engine (suc b) r = go (running_paused p r) (run-list engine b (instant p engine r))
    where
      go : (c : Bool) → EventList (events_of_run p engine b (instant p engine r)) → EventList (cond c (events_of p r ++ events_of_run p engine b (instant p engine r)) [])
      go true rest = both (instant-list r) rest
      go false rest = none
