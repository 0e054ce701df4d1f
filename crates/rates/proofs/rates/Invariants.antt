-- The first i rates are stored.
use mathlib.Core.Path.{◌≡◌}
use Prim.Native.Nat.{◌+◌}
use lib.IntN.{pos}
use Rattle.plan.specs.Lists.{nat_at, row}
use Rattle.rates.specs.Links.{range_rate}
use Rattle.rates.proofs.rates.Given as goal

abbrev pub invariant-loop-i : goal.invariant-loop-i
invariant-loop-i l = l.slopes ≡ row (pos 0) 32 l.i (λ i. range_rate l.links l.values (nat_at l.ranges i) (nat_at l.ranges (i + 1)))
