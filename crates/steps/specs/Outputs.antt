-- Model of the code: the outputs of the due integrators as the code sets them. What they are by document 01: Laws/Outputs.
use Rattle.std.specs.Prelude.{List, ℕ, ◌-◌, ℤ, pos, ◌+ℤ◌, ◌*ℤ◌, set}
use Rattle.plan.specs.Lists.{nat_at, int_at}

-- the values of sources once integrator i has taken its position at t as its output
unfoldable pub after_output : (t : ℕ) (x s : List ℤ) (l : List ℕ) (i : ℕ) (values : List ℤ) → List ℤ
after_output t x s l i values = set values i (int_at x i +ℤ int_at s i *ℤ pos (t - nat_at l i))
