-- Model of the code: what an instant asks and what it leaves. What an instant is by document 01: Laws/Instants.
use Rattle.std.specs.Prelude.{◌≡◌, true, List, ℕ, ◌+◌, ◌*◌, ◌≤◌, ℤ, length}
use Rattle.bitset.specs.Mask.{mask_of, all_of, union}
use Rattle.plan.specs.Numbers.{event_bytes}
use Rattle.plan.specs.declared.Counts.{Counts}
use Rattle.plan.specs.declared.Plan.{Plan}
use Rattle.machine.specs.Held.{running_by}
use Rattle.machine.specs.Reach.{is_due}
use Rattle.machine.specs.Instant.{next_tick_of, instant, events_of}
use Rattle.machine.specs.Status.{running_paused}
use Rattle.machine.specs.Runs.{events_most}
use Rattle.machine.specs.Sound.{SoundInWords, RunningWidths}
use Rattle.machine.specs.declared.Clocks.{Clocks}
use Rattle.machine.specs.declared.Motion.{Motion}
use Rattle.machine.specs.declared.Running.{Running}
use Rattle.machine.specs.declared.Engine.{Engine}
use Rattle.machine.specs.declared.Engine.TheVariants.{Lazy, Eager}
use Rattle.values.specs.Sources.{values_of, outputs_in, inputs_in}
use Rattle.rates.specs.Links.{ranges_of}
use Rattle.reach.specs.Table.{reach_table}
use Rattle.steps.specs.Events.{put_at}

-- the running figures of which an instant moves `motion`; their outputs and input values stand in the values of sources
abbrev pub running_of : (counts : Counts) (motion : Motion) (values : List ℤ) (clocks : Clocks) → Running
running_of counts motion values clocks =
    let q = outputs_in counts.n values in let u = inputs_in counts.n counts.m values in
    running_by (record { q = q; inputs = u; next = clocks.next; instants = clocks.instants }) motion.x motion.s motion.l motion.d
    clocks.clock clocks.updates

-- what an instant does not read of a plan; of the links' targets it has the tables
pub record Unread : Type 0 where
  pub horizon : ℕ
  pub starts : List ℤ
  pub firsts : List ℤ
  pub targets : List ℕ

-- the plan with these in place of its own
abbrev pub with_unread : (p : Plan) (unread : Unread) → Plan
with_unread p unread =
    record {
      horizon = unread.horizon;
      counts = p.counts;
      integrators = record { starts = unread.starts; quanta = p.integrators.quanta };
      inputs = record { firsts = unread.firsts };
      nodes = p.nodes;
      links = record { targets = unread.targets; sources = p.links.sources; coefficients = p.links.coefficients };
      commands = p.commands;
    }

-- "The lazy engine moves those due or reached, the eager engine all", on masks
unfoldable pub moved_set : (engine : Engine) (n due reached : ℕ) → ℕ
moved_set Lazy n due reached = union due reached
moved_set Eager n due reached = all_of n

-- the next instant, at t, of a sound and paused state; the tables and values are those of the plan and the state; the events fit behind byte `at`
pub record InstantReady (p : Plan) (ranges reach : List ℕ) (t due : ℕ) (r : Running) (values : List ℤ) (at size : ℕ) : Type 0 where
  pub shaped : RunningWidths r
  pub sound : SoundInWords p r
  pub paused : running_paused p r ≡ true
  pub tick : t ≡ next_tick_of p r
  pub due-set : due ≡ mask_of (is_due r.d t) p.counts.n
  pub ranges_are : ranges ≡ ranges_of p
  pub reach_is : reach ≡ reach_table p
  pub values_are : values ≡ values_of p r.q r.inputs
  pub room : at + events_most p * event_bytes ≤ size

-- what it leaves: the machine's figures after the instant, the values of all sources by these, the events from byte `at` on and nothing else changed in the buffer, and
-- the place behind the events
pub record InstantTaken (engine : Engine) (p : Plan) (r : Running) (buffer : List ℕ) (at : ℕ) (r' : Running) (values' : List ℤ) (buffer' : List ℕ) (end : ℕ)
    : Type 0 where
  pub figures : r' ≡ instant p engine r
  pub sources : values' ≡ values_of p r'.q r'.inputs
  pub bytes : buffer' ≡ put_at buffer at (events_of p r)
  pub place : end ≡ at + length (events_of p r)

-- Of the plan just some parts are read, and `plan` makes it whole with what is not read. Asked is that the instant is ready with some plan that has the
-- parts that are read; what it leaves holds with every one with which it is ready.
pub record SomePlanReady (plan : Unread → Plan) (ranges reach : List ℕ) (t due : ℕ) (r : Running) (values : List ℤ) (at size : ℕ) : Type 0 where
  pub unread : Unread
  pub ready : InstantReady (plan unread) ranges reach t due r values at size

pub record EveryPlanTaken (engine : Engine) (plan : Unread → Plan) (ranges reach : List ℕ) (t due : ℕ) (r : Running) (values : List ℤ) (buffer : List ℕ) (at : ℕ)
    (r' : Running) (values' : List ℤ) (buffer' : List ℕ) (end : ℕ) : Type 0 where
  pub taken : (unread : Unread) → InstantReady (plan unread) ranges reach t due r values at (length buffer)
      → InstantTaken engine (plan unread) r buffer at r' values' buffer' end
