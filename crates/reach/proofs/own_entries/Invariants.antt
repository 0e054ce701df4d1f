-- After j turns the first j nodes are marked.
use mathlib.Core.Path.{◌≡◌}
use Rattle.reach.specs.Table.{own_entries}
use Rattle.reach.proofs.own_entries.Given as goal

abbrev pub invariant-loop-j : goal.invariant-loop-j
invariant-loop-j l = l.table ≡ own_entries l.base l.initial.table l.j
