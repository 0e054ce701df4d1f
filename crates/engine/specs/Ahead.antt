-- Model of the code: what lies ahead of a state as the code works it out. What it is by document 01: Laws/Aheads.
use Rattle.std.specs.Prelude.{ℕ, ◌≤◌, min}
use Rattle.bitset.specs.Mask.{mask_of}
use Rattle.plan.specs.Numbers.{most_integrators, most_commands}
use Rattle.plan.specs.Lists.{first_from}
use Rattle.plan.specs.declared.Plan.{Plan}
use Rattle.machine.specs.Entries.{entry_tick}
use Rattle.machine.specs.Next.{least_due}
use Rattle.machine.specs.Reach.{is_due}
use Rattle.machine.specs.Status.{status_by}
use Rattle.machine.specs.declared.Motion.{Motion}
use Rattle.timing.specs.Status.{bars_in, DuePositionsReady}
use Rattle.engine.specs.declared.ahead.Ahead.{Ahead}

module _ (p : Plan) (m : Motion) (next : ℕ) where
  abbrev pub tick_ahead : ℕ
  tick_ahead = min (least_due m.d p.counts.n) (entry_tick p.commands.ticks p.counts.commands next)

  abbrev pub due_ahead : ℕ
  due_ahead = mask_of (is_due m.d tick_ahead) p.counts.n

  -- what that asks
  pub record AheadReady : Type 0 where
    pub few : p.counts.n ≤ most_integrators
    pub listed : p.counts.commands ≤ most_commands
    pub positions : DuePositionsReady tick_ahead due_ahead m.x m.s m.l

  abbrev pub ahead_of : Ahead
  ahead_of =
      record {
        tick = tick_ahead;
        due = due_ahead;
        status = status_by p.horizon p.counts.n tick_ahead (first_from (bars_in tick_ahead due_ahead m.x m.s m.l) 0 p.counts.n);
      }
