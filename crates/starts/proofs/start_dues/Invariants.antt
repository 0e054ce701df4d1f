-- The first i due ticks are stored.
use mathlib.Core.Path.{◌≡◌}
use Rattle.plan.specs.Lists.{row}
use Rattle.starts.specs.Starting.{first_due}
use Rattle.starts.proofs.start_dues.Given as goal

abbrev pub invariant-loop-i : goal.invariant-loop-i
invariant-loop-i l = l.dues ≡ row 0 32 l.i (first_due l.integrators l.slopes)
