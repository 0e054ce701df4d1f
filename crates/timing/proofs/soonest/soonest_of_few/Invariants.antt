-- At each turn it holds what the integrators passed give.
use mathlib.Core.Path.{◌≡◌}
use Prim.Native.Nat.{min}
use Rattle.machine.specs.Next.{least_due}
use Rattle.timing.specs.Soonest.{soonest_at}
use Rattle.timing.proofs.soonest.soonest_of_few.Given as goal

abbrev pub invariant-loop-i : goal.invariant-loop-i
invariant-loop-i l = l.soonest ≡ soonest_at l.d l.i (min (least_due l.d l.i) l.first)
