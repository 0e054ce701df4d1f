-- The local holds the sum over the links passed.
use mathlib.Core.Path.{◌≡◌}
use Prim.Native.Nat.{◌-◌}
use Rattle.rates.specs.Links.{term, sum_from}
use Rattle.rates.proofs.rate.Given as goal

abbrev pub invariant-loop-e : goal.invariant-loop-e
invariant-loop-e l = l.sum ≡ sum_from (term l.links l.values) l.from (l.e - l.from)
