-- After e turns the first e links are marked.
use mathlib.Core.Path.{◌≡◌}
use Rattle.reach.specs.Table.{link_entries}
use Rattle.reach.proofs.link_entries.Given as goal

abbrev pub invariant-loop-e : goal.invariant-loop-e
invariant-loop-e l = l.table ≡ link_entries l.links l.e
