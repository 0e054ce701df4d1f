-- Model of the code: which integrators bar an instant, from the mask of the due ones. What that is by document 01: Laws/Statuses.
use Rattle.std.specs.Prelude.{Bool, true, not, ◌&&◌, ◌≡◌, List, ℕ, ◌-◌, ℤ, pos, ◌+ℤ◌, ◌*ℤ◌}
use Rattle.integers.specs.Range.{within}
use Rattle.bitset.specs.Mask.{has}
use Rattle.plan.specs.Numbers.{M}
use Rattle.plan.specs.Lists.{nat_at, int_at}
use Rattle.timing.specs.Ticks.{PositionReady}

module _ (t due : ℕ) (x s : List ℤ) (l : List ℕ) where
  -- integrator i is due, and its value at t is beyond ±M
  unfoldable pub bars_in : ℕ → Bool
  bars_in i = has due i && not (within M (int_at x i +ℤ int_at s i *ℤ pos (t - nat_at l i)))

  -- the positions of the due ones at t can be worked out
  pub record DuePositionsReady : Type 0 where
    pub ready : (i : ℕ) → has due i ≡ true → PositionReady (int_at x i) (int_at s i) (nat_at l i) t
