-- Model of the code: one integrator moved, and all of a mask, as the code does it. What that is by document 01: Laws/Moves.
use Rattle.std.specs.Prelude.{◌≡◌, true, List, ℕ, ◌+◌, ◌-◌, ◌<◌, ℤ, pos, ◌+ℤ◌, ◌*ℤ◌, set}
use Rattle.bitset.specs.Mask.{has}
use Rattle.plan.specs.Numbers.{most_integrators}
use Rattle.plan.specs.Lists.{nat_at, int_at}
use Rattle.plan.specs.declared.Plan.{Plan}
use Rattle.machine.specs.Due.{due_tick}
use Rattle.machine.specs.declared.Motion.{Motion}
use Rattle.machine.specs.declared.Running.{Running}
use Rattle.rates.specs.Links.{range_rate, RateReady}
use Rattle.timing.specs.Ticks.{upper_in, lower_in, LevelReady, DueReady, PositionReady}

-- what an instant moves of the running figures
abbrev pub motion_of : Running → Motion
motion_of r = record { x = r.x; s = r.s; l = r.l; d = r.d }

module _ (p : Plan) (ranges : List ℕ) (t : ℕ) (values : List ℤ) where
  -- where integrator i is at t, its new slope, and its new due tick
  unfoldable pub position_then : ℕ → Motion → ℤ
  position_then i m = int_at m.x i +ℤ int_at m.s i *ℤ pos (t - nat_at m.l i)

  unfoldable pub slope_from : ℕ → ℤ
  slope_from i = range_rate p.links values (nat_at ranges i) (nat_at ranges (i + 1))

  unfoldable pub due_from : ℕ → ℤ → ℕ
  due_from i xThen = due_tick t xThen (upper_in values p.integrators.quanta i) (lower_in values p.integrators.quanta i) (slope_from i)

  unfoldable pub after_move : ℕ → Motion → Motion
  after_move i m =
      record {
        x = set m.x i (position_then i m);
        s = set m.s i (slope_from i);
        l = set m.l i t;
        d = set m.d i (due_from i (position_then i m));
      }

  -- what that asks
  pub record Movable (i : ℕ) (m : Motion) : Type 0 where
    pub used : i < most_integrators
    pub rated : RateReady p.links values (nat_at ranges i) (nat_at ranges (i + 1))
    pub position : PositionReady (int_at m.x i) (int_at m.s i) (nat_at m.l i) t
    pub level : LevelReady (int_at values i) (int_at p.integrators.quanta i)
    pub due : DueReady t (position_then i m) (upper_in values p.integrators.quanta i) (lower_in values p.integrators.quanta i) (slope_from i)

  abbrev pub AllMovable : ℕ → Motion → Type 0
  AllMovable moved m = (i : ℕ) → has moved i ≡ true → Movable i m
