-- Before the turn of entry j the column has j entries used.
use mathlib.Core.Path.{◌≡◌}
use Rattle.planfile.specs.Columns.{signeds_of}
use Rattle.planfile.proofs.readers.read_inputs.Given as goal

abbrev pub invariant-loop-j : goal.invariant-loop-j
invariant-loop-j l =
    (l.read.firsts ≡ signeds_of 8 4 l.j l.part 0)
