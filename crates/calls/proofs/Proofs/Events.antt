-- Proof: the events of an instant read back: tick, source and signed value of each, behind those of the lower sources. Assumes nothing.
use Rattle.std.specs.Prelude.{◌≡◌, refl, Bool, List, ℕ, ◌+◌, ◌*◌, ◌≤◌, ◌<◌, ℤ}
use Rattle.std.proofs.Common.{◌∙◌, arith}
use Rattle.integers.specs.Parts.{∣◌∣}
use Rattle.bitset.specs.Counts.{count_of}
use Rattle.plan.specs.Numbers.{M}
use Rattle.plan.specs.Lists.{int_at}
use Rattle.plan.proofs.Laws.CountLimits.{CountLimits, count-limits}
use Rattle.plan.proofs.Laws.TestMeanings.{within-size}
use Rattle.plan.specs.declared.Plan.{Plan}
use Rattle.machine.specs.Values.{value_with}
use Rattle.machine.specs.Held.{Held, held_of}
use Rattle.machine.specs.Reach.{is_due, gives, changes, Changed, due, commanded}
use Rattle.machine.specs.Instant.{position_at, outcome_by, outcome_events, next_tick_of, events_of}
use Rattle.machine.specs.Status.{status_at, status_of}
use Rattle.plan.specs.Rules.{PlanRules}
use Rattle.machine.proofs.Laws.OutcomeEvents.{outcome-length, outcome-tick, outcome-source, outcome-value}
use Rattle.machine.proofs.Laws.Inputs.{input-set, output-value, input-value}
use Rattle.machine.proofs.Laws.Reach.{changes_means}
use Rattle.machine.proofs.Laws.Status.{paused-horizon, paused-size}
use Rattle.machine.proofs.Laws.Steps.{output-due}
use Rattle.machine.proofs.Laws.Woken.{gives_means}
use Rattle.machine.specs.declared.Status.TheVariants.{Paused}
use Rattle.calls.specs.Promises.Machine.{EventAt, EventsPromise, EventsRead}

-- with the due ticks d, the positions at t, and what was held before it
module _ (p : Plan) (ok : PlanRules p) (d : List ℕ) (t : ℕ) (position : ℕ → ℤ) (h : Held) (paused : status_at p t (gives (is_due d t)) position ≡ Paused) where
  limits : CountLimits p
  limits = count-limits p ok.counts

  abbrev giving : ℕ → Bool
  giving = gives (is_due d t)

  -- outputs and input values after it
  abbrev q : List ℤ
  q = (outcome_by p t (is_due d t) position h).held.q

  abbrev u : List ℤ
  u = (outcome_by p t (is_due d t) position h).held.inputs

  abbrev bytes : List ℕ
  bytes = outcome_events p t (is_due d t) position h

  -- the event of a source that changes
  event_at : (i : ℕ) (value : ℤ) → i < p.counts.n + p.counts.m → Changed p d t i → value_with p q u 0 i ≡ value → ∣ value ∣ ≤ M
      → EventAt bytes (12 * count_of (changes p d t) i) t i value
  event_at i value l c e small =
      let changed = (changes_means p d t i).1 c in
      record {
        tick_is = outcome-tick p t (is_due d t) position h i l changed (omega (arith, paused-horizon p t giving position paused, ok.horizon));
        source_is = outcome-source p t (is_due d t) position h i l changed (omega (arith, limits));
        value_is = outcome-value p t (is_due d t) position h i l changed (rw e small) ∙ e;
      }

  pub events_promise : EventsPromise p d t position bytes
  events_promise = record {
    due = λ i l e.
        event_at i (position i) (omega arith) (due l e) (output-value p q u i l ∙ output-due p limits d t position h.q i l e)
        (paused-size p t giving position paused i l ((gives_means d t i).1 e));
    commanded = λ j e k l tick number.
        event_at (p.counts.n + j) (int_at p.commands.values e) (omega arith) (commanded j e refl k l tick number)
        (input-value p q u j k ∙ input-set p ok h.inputs t j e k l tick number)
        ((within-size M (int_at p.commands.values e)).0 (ok.commands e l).value);
    no_other = outcome-length p t (is_due d t) position h;
  }

pub events-read : EventsRead
unfolding status_of events_of
events-read p r ok paused = let t = next_tick_of p r in events_promise p ok r.d t (position_at r t) (held_of r) paused
