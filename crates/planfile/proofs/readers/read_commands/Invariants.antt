-- Before the turn of entry e each column has e entries used.
use mathlib.Core.Path.{◌≡◌}
use Rattle.planfile.specs.Columns.{words_of, signeds_of}
use Rattle.planfile.proofs.readers.read_commands.Given as goal

abbrev pub invariant-loop-e : goal.invariant-loop-e
invariant-loop-e l =
    (l.read.ticks ≡ words_of 64 12 l.e l.part 0) × (l.read.inputs ≡ words_of 64 12 l.e l.part 1) × (l.read.values ≡ signeds_of 64 12 l.e l.part 2)
