-- The first i entries are stored, and the search for i goes on from `from`.
use mathlib.Core.Path.{◌≡◌}
use Prim.Native.Nat.{◌-◌, ◌≤◌}
use lib.Dec.{leb}
use Rattle.plan.specs.Lists.{nat_at, row, first_from}
use Rattle.rates.specs.Links.{first_link}
use Rattle.rates.proofs.link_ranges.Given as goal

abbrev pub invariant-loop-i : goal.invariant-loop-i
invariant-loop-i l = record {
  most : l.from ≤ l.count;
  here : first_from (λ e. leb l.i (nat_at l.links.targets e)) l.from (l.count - l.from) ≡ first_link l.links.targets l.count l.i;
  stored : l.ranges ≡ row 0 33 l.i (first_link l.links.targets l.count);
}
