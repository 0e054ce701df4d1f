-- Model of the code: what levels, due ticks and positions ask of their numbers, so that nothing on the way is too large for its type.
-- Laws/Dues shows that it holds wherever a due tick is worked out.
use Rattle.std.specs.Prelude.{List, ℕ, ◌+◌, ◌-◌, ◌*◌, ◌^◌, ◌≤◌, ◌<◌, ℤ, pos, ◌+ℤ◌, ◌-ℤ◌, ◌*ℤ◌, ◌≤ℤ◌, ◌<ℤ◌}
use Rattle.integers.specs.Parts.{∣◌∣}
use Rattle.plan.specs.Numbers.{M, largest_horizon}
use Rattle.plan.specs.Lists.{int_at}
use Rattle.machine.specs.Values.{slope_limit}

-- integrator i's levels, where outputs and quanta stand in arrays
abbrev pub upper_in : (q quanta : List ℤ) (i : ℕ) → ℤ
upper_in q quanta i = int_at q i +ℤ int_at quanta i

abbrev pub lower_in : (q quanta : List ℤ) (i : ℕ) → ℤ
lower_in q quanta i = int_at q i -ℤ int_at quanta i

-- an output and a quantum of which a level can be made, above the output or below it
pub record LevelReady (q quantum : ℤ) : Type 0 where
  pub output : ∣ q ∣ ≤ M
  pub step : ∣ quantum ∣ ≤ M

-- x strictly between two levels, which are at most two of the largest quanta apart: so each is less than 2^31 away
pub record DueReady (from : ℕ) (x upper lower s : ℤ) : Type 0 where
  pub early : from ≤ largest_horizon
  pub above : lower <ℤ x
  pub below : x <ℤ upper
  pub apart : (upper -ℤ lower) ≤ℤ pos (2 * M)
  pub slow : ∣ s ∣ < slope_limit

-- a move up to the due tick
pub record PositionReady (x s : ℤ) (l t : ℕ) : Type 0 where
  pub since : l ≤ t
  pub small : ∣ x ∣ ≤ 2 ^ 31
  pub move : ∣ s *ℤ pos (t - l) ∣ ≤ 2 ^ 32 + slope_limit
