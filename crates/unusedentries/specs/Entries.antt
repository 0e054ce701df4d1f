-- Model of the code: the unused entries of the running figures. That they are document 01's: `soundness`, Laws/RunningTests.
use Rattle.std.specs.Prelude.{Bool, ◌&&◌, List, ℕ, ℤ}
use Rattle.plan.specs.Unused.{nats_zero_from, ints_zero_from}

-- "unused entries are 0"
unfoldable pub running_unused_zero_by : (n m : ℕ) (x q s : List ℤ) (l d : List ℕ) (inputs : List ℤ) → Bool
running_unused_zero_by n m x q s l d inputs =
    ints_zero_from n x && ints_zero_from n q && ints_zero_from n s && nats_zero_from n l && nats_zero_from n d && ints_zero_from m inputs
