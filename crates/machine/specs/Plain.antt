-- Binding definition: "The plain machine is these rules with every integrator moved at each instant and no update count." It keeps no l,
-- since every position is at the clock, and is fed the plan and a budget sum.
use Rattle.std.specs.Prelude.{cond, List, [], ◌++◌, ℕ, zero, suc, ◌-◌, ℤ, pos, ◌+ℤ◌, ◌*ℤ◌}
use Rattle.bitset.specs.Counts.{count_of}
use Rattle.plan.specs.Numbers.{most_integrators}
use Rattle.plan.specs.Lists.{int_at, row}
use Rattle.plan.specs.declared.Plan.{Plan}
use Rattle.machine.specs.Held.{Held, slope_of, held_start, next_tick}
use Rattle.machine.specs.Reach.{is_due, gives, touched}
use Rattle.machine.specs.Instant.{Outcome, outcome_by, outcome_events, due_then}
use Rattle.machine.specs.Status.{is_paused, status_at}
use Rattle.machine.specs.declared.Status.{Status}

-- positions at the clock, slopes and due ticks; the clock; and what is held
pub record Plain : Type 0 where
  pub x : List ℤ
  pub s : List ℤ
  pub d : List ℕ
  pub clock : ℕ
  pub held : Held

module _ (p : Plan) where
  -- every integrator is moved at a tick as the outcome there says, and gets its due tick by rule
  unfoldable pub settled : (t : ℕ) → Outcome → Plain
  settled t o =
      record {
        x = row (pos 0) most_integrators p.counts.n o.x;
        s = row (pos 0) most_integrators p.counts.n o.s;
        d = row 0 most_integrators p.counts.n (due_then p t o);
        clock = t;
        held = o.held;
      }

  -- "Start: x = q = start", "slopes and dues by rule"
  abbrev pub start_outcome : Outcome
  start_outcome = record { held = held_start p; x = int_at p.integrators.starts; s = slope_of p (held_start p) }

  unfoldable pub plain_start : Plain
  plain_start = settled 0 start_outcome

  -- "Next instant t"
  unfoldable pub plain_next_tick : Plain → ℕ
  plain_next_tick plain = next_tick p plain.d plain.held

  -- where integrator i is at the next instant
  unfoldable pub plain_position : Plain → ℕ → ℤ
  plain_position plain i = int_at plain.x i +ℤ int_at plain.s i *ℤ pos (plain_next_tick plain - plain.clock)

  -- what the next instant makes of these figures
  abbrev pub plain_outcome : Plain → Outcome
  plain_outcome plain = let t = plain_next_tick plain in outcome_by p t (is_due plain.d t) (plain_position plain) plain.held

  -- one instant: all move
  unfoldable pub plain_instant : Plain → Plain
  plain_instant plain = settled (plain_next_tick plain) (plain_outcome plain)

  unfoldable pub plain_events_of : Plain → List ℕ
  plain_events_of plain = let t = plain_next_tick plain in outcome_events p t (is_due plain.d t) (plain_position plain) plain.held

  unfoldable pub plain_status : Plain → Status
  plain_status plain = let t = plain_next_tick plain in status_at p t (gives (is_due plain.d t)) (plain_position plain)

  -- "the number that step 5 moves for the lazy engine, with the plain machine's due ticks": those due or reached
  unfoldable pub lazy_count : Plain → ℕ
  lazy_count plain = let t = plain_next_tick plain in count_of (touched p t (is_due plain.d t)) p.counts.n

  -- "From Start it takes B instants, or fewer if its status is first 1 or 2."
  unfoldable pub plain_from : ℕ → Plain → Plain
  plain_from zero plain = plain
  plain_from (suc b) plain = cond (is_paused (plain_status plain)) (plain_from b (plain_instant plain)) plain

  unfoldable pub plain_events_from : ℕ → Plain → List ℕ
  plain_events_from zero plain = []
  plain_events_from (suc b) plain = cond (is_paused (plain_status plain)) (plain_events_of plain ++ plain_events_from b (plain_instant plain)) []

  -- fed the budget sum
  unfoldable pub plain_after : ℕ → Plain
  plain_after b = plain_from b plain_start

  unfoldable pub plain_events : ℕ → List ℕ
  plain_events b = plain_events_from b plain_start
