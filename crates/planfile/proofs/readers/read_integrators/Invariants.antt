-- Before the turn of entry i each column has i entries used.
use mathlib.Core.Path.{◌≡◌}
use Rattle.planfile.specs.Columns.{signeds_of, unsigneds_of}
use Rattle.planfile.proofs.readers.read_integrators.Given as goal

abbrev pub invariant-loop-i : goal.invariant-loop-i
invariant-loop-i l =
    (l.read.starts ≡ signeds_of 32 8 l.i l.part 0) × (l.read.quanta ≡ unsigneds_of 32 8 l.i l.part 1)
