-- Before the turn of entry e each column has e entries used.
use mathlib.Core.Path.{◌≡◌}
use Rattle.planfile.specs.Columns.{words_of, signeds_of}
use Rattle.planfile.proofs.readers.read_links.Given as goal

abbrev pub invariant-loop-e : goal.invariant-loop-e
invariant-loop-e l =
    (l.read.targets ≡ words_of 256 12 l.e l.part 0) × (l.read.sources ≡ words_of 256 12 l.e l.part 1) × (l.read.coefficients ≡ signeds_of 256 12 l.e l.part 2)
