-- Proof: demand 3 whole. Assumes nothing.
use Rattle.std.specs.Prelude.{◌≡◌, List, ℕ, zero, suc, ◌+◌, ◌-◌, ◌≤◌, ◌<◌, length, take, drop}
use Rattle.std.proofs.Common.{sym, ◌∙◌, take-append-drop, length-take-le}
use Rattle.std.proofs.Math.Path.{ap}
use native.Mathlib.Omega.{arith}
use Rattle.std.proofs.lemmas.List.{get_or-replicate}
use Rattle.plan.specs.Format.{plan_in}
use Rattle.plan.proofs.Laws.FileRefusals.{accepted-rules}
use Rattle.plan.proofs.Laws.Entries.{file_unused}
use Rattle.plan.specs.declared.Plan.{Plan}
use Rattle.machine.specs.Start.{start_of, start_state}
use Rattle.machine.specs.Plain.{plain_after, plain_events}
use Rattle.machine.specs.Updates.{growth_up_to}
use Rattle.machine.proofs.Laws.SoundClauses.{SoundRunning}
use Rattle.machine.proofs.Laws.StartSound.{start-sound}
use Rattle.machine.proofs.Laws.Growth.{growth-least, growth-most}
use Rattle.machine.proofs.Laws.Instants.{engine_of, state_at, growth_mono, growth_ext, growth_eager, growth-parts, run_together, events-next, moved-next, instants_at, updates_at, updates-end}
use Rattle.machine.proofs.Laws.PlainRuns.{takes_most}
use Rattle.machine.proofs.Laws.Runs.{after_by, events_by, after_append, run_sound}
use Rattle.machine.specs.declared.State.{State}
use Rattle.machine.specs.declared.Engine.{Engine}
use Rattle.machine.specs.declared.Engine.TheVariants.{Lazy, Eager}
use Rattle.calls.specs.Lists.{Call, after_calls, budget_sum, joined_bytes, engine_at, cut_at, rest_at, AllBy, all_by}
use Rattle.calls.specs.Promises.Lists.{SameAsPlain, EndAlike, InstantPromise, ListPromise, Demand3}
use Rattle.calls.proofs.Proofs.Files.{load_accepted, every_file}
use Rattle.calls.proofs.Proofs.Schedule.{at, schedule, calls_state, calls_sum, calls_bytes}
use Rattle.calls.proofs.Proofs.Cuts.{schedule_cut, schedule_rest, engine_at_lem, schedule_by, length-all, all_by_lem}
use Rattle.calls.proofs.Proofs.ListCalls.{call_promise}
use Rattle.calls.proofs.Proofs.Plain.{same_as_plain, end-alike}

-- from the start of a plan whose start is sound
module _ (p : Plan) (ok : SoundRunning p (start_of p)) where
  abbrev start : State
  start = at p (start_of p)

  module _ (calls : List Call) where
    -- the engines of its instants, and how many are fed
    abbrev engines : List Engine
    engines = schedule p calls

    sum : budget_sum start calls ≡ length engines
    sum = calls_sum p calls (start_of p) ok

    end : after_calls start calls ≡ at p (after_by p engines (start_of p))
    end = calls_state p calls (start_of p) ok

    same_end : SameAsPlain p (after_calls start calls) (plain_after p (budget_sum start calls))
    unfolding plain_after
    same_end =
        rw (end, sum)
        (same_as_plain p (after_by p engines (start_of p)) (run_sound p engines (start_of p) ok) _ (run_together p ok engines).agrees)

    same_bytes : joined_bytes start calls ≡ plain_events p (budget_sum start calls)
    unfolding plain_events
    same_bytes = calls_bytes p calls (start_of p) ok ∙ (run_together p ok engines).bytes ∙ rw sum

    grown : (k : ℕ) → growth_up_to p (engine_of engines) k ≡ growth_up_to p (engine_at start calls) k
    grown k = growth_ext p (engine_of engines) (engine_at start calls) k (λ i h. sym (engine_at_lem p calls (start_of p) ok (i + 1) (omega arith)))

    updates_then : (after_calls start calls).run.clocks.updates ≡ growth_up_to p (engine_of engines) (plain_after p (length engines)).held.instants
    updates_then = rw end (updates-end p ok engines)

    updates : (after_calls start calls).run.clocks.updates ≡ growth_up_to p (engine_at start calls) (plain_after p (budget_sum start calls)).held.instants
    updates = rw sum (updates_then ∙ grown (plain_after p (length engines)).held.instants)

    -- ---- cut behind instant i
    cut_state : (i : ℕ) → after_calls start (cut_at start calls i) ≡ at p (state_at p engines i)
    unfolding state_at
    cut_state i =
        calls_state p (cut_at start calls i) (start_of p) ok
        ∙ ap (λ es. at p (after_by p es (start_of p))) (schedule_cut p calls (start_of p) ok i)

    cut_bytes : (i : ℕ) → joined_bytes start (cut_at start calls i) ≡ events_by p (take i engines) (start_of p)
    cut_bytes i =
        calls_bytes p (cut_at start calls i) (start_of p) ok
        ∙ ap (λ es. events_by p es (start_of p)) (schedule_cut p calls (start_of p) ok i)

    cut_sum : (i : ℕ) → i ≤ length engines → budget_sum start (cut_at start calls i) ≡ i
    cut_sum i h =
        calls_sum p (cut_at start calls i) (start_of p) ok
        ∙ ap (λ es. length es) (schedule_cut p calls (start_of p) ok i) ∙ length-take-le i engines h

    rest_state : (i : ℕ) → after_calls (after_calls start (cut_at start calls i)) (rest_at start calls i) ≡ after_calls start calls
    unfolding state_at
    rest_state i =
        let after-cut = after_by p (take i engines) (start_of p) in
        rw (cut_state i, end)
        (calls_state p (rest_at start calls i) after-cut (run_sound p (take i engines) (start_of p) ok)
        ∙ ap (λ es. at p (after_by p es after-cut)) (schedule_rest p calls (start_of p) ok i)
        ∙ ap (at p) (sym (after_append p (take i engines) (drop i engines) (start_of p)) ∙ ap (λ es. after_by p es (start_of p)) (take-append-drop i engines)))

    instant_promise : (i : ℕ) → 1 ≤ i → i ≤ (plain_after p (length engines)).held.instants → InstantPromise p start calls i
    instant_promise zero l h = absurd (omega arith)
    instant_promise (suc k) l h =
        let back : suc k - 1 ≡ k = omega arith in
        let next : k + 1 ≡ suc k = omega arith in
        record {
          sum = cut_sum (suc k) (omega (arith, takes_most p (length engines)));
          taken = rw (cut_state (suc k)) (instants_at p ok engines (suc k) h);
          resumed = rest_state (suc k);
          bytes = rw (back, cut_bytes (suc k), cut_bytes k, cut_state k, ← next) (events-next p ok engines k h);
          moved =
              rw (back, cut_state (suc k), engine_at_lem p calls (start_of p) ok (suc k) l, ← next) (moved-next p ok engines k h);
          grown = rw (cut_state (suc k)) (updates_at p ok engines (suc k) h ∙ grown (suc k));
        }

  -- ---- lists with the same sum
  alike : (calls others : List Call) → budget_sum start others ≡ budget_sum start calls
      → EndAlike (after_calls start others) (after_calls start calls) (joined_bytes start others) (joined_bytes start calls)
  alike calls others e =
      end-alike p (plain_after p (budget_sum start calls)) (after_calls start others) (after_calls start calls) (rw (← e) (same_end others)) (same_end calls)
      (joined_bytes start others) (joined_bytes start calls) (same_bytes others ∙ rw e (sym (same_bytes calls)))

  -- ---- a list by one engine: its updates grow at each instant as that engine's do
  module _ (engine : Engine) (calls : List Call) (all : AllBy engine calls) where
    one-engine : (i : ℕ) → i < length (schedule p calls) → engine_of (schedule p calls) (i + 1) ≡ engine
    unfolding engine_of
    one-engine i h =
        let back : i + 1 - 1 ≡ i = omega arith in
        rw (back, schedule_by p engine calls all) (get_or-replicate (length (schedule p calls)) i engine Lazy h)

    updates_by : (after_calls start calls).run.clocks.updates ≡ growth_up_to p (λ i. engine) (plain_after p (budget_sum start calls)).held.instants
    updates_by =
        rw (sum calls)
        (updates_then calls
        ∙ growth_ext p (engine_of (schedule p calls)) (λ i. engine) (plain_after p (length (schedule p calls))).held.instants
        (λ i h. one-engine i (omega (arith, takes_most p (length (schedule p calls))))))

  same_sum : (engine : Engine) (calls : List Call) → budget_sum start (all_by engine calls) ≡ budget_sum start calls
  same_sum engine calls = sum (all_by engine calls) ∙ length-all p engine calls ∙ sym (sum calls)

  all-updates : (engine : Engine) (calls : List Call) → (after_calls start (all_by engine calls)).run.clocks.updates
      ≡ growth_up_to p (λ i. engine) (plain_after p (budget_sum start calls)).held.instants
  all-updates engine calls = updates_by engine (all_by engine calls) (all_by_lem engine calls) ∙ rw (same_sum engine calls)

  pub list_promise : (calls : List Call) → ListPromise p start calls
  list_promise calls =
      let k = (plain_after p (budget_sum start calls)).held.instants in
      record {
        each = λ earlier c later e.
            rw (calls_state p earlier (start_of p) ok)
            (call_promise p (after_by p (schedule p earlier) (start_of p)) (run_sound p (schedule p earlier) (start_of p) ok) c);
        state = same_end calls;
        bytes = same_bytes calls;
        instants = λ i l h. instant_promise calls i l (rw (sum calls) at h);
        updates = updates calls;
        counted = updates calls ∙ growth-parts p (engine_at start calls) k;
        alike = alike calls;
        fewest = λ others all e.
            rw (updates_by Lazy others all, e, updates calls)
            (growth_mono p (λ i. Lazy) (engine_at start calls) k (λ i h m. growth-least p (engine_at start calls (i + 1)) m));
        most = λ others all e.
            rw (updates_by Eager others all, e, updates calls)
            (growth_mono p (engine_at start calls) (λ i. Eager) k (λ i h m. growth-most p (engine_at start calls (i + 1)) m));
        one-engine = λ engine. all_by_lem engine calls;
        same_sum = λ engine. same_sum engine calls;
        all-lazy = all-updates Lazy calls;
        all_eager = all-updates Eager calls ∙ growth_eager p k;
      }

pub demand_3 : Demand3
unfolding start_state
demand_3 file loads calls =
    let p = plan_in file in
    let ok = start-sound p (accepted-rules file (load_accepted file loads)) (file_unused file) in
    rw ((every_file file).started loads) (list_promise p ok calls)
