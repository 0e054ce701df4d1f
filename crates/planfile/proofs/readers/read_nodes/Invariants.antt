-- Before the turn of entry j each column has j entries used.
use mathlib.Core.Path.{◌≡◌}
use Rattle.planfile.specs.Columns.{words_of, signeds_of}
use Rattle.planfile.proofs.readers.read_nodes.Given as goal

abbrev pub invariant-loop-j : goal.invariant-loop-j
invariant-loop-j l =
    (l.read.kinds ≡ words_of 16 20 l.j l.part 0) × (l.read.a ≡ words_of 16 20 l.j l.part 1) × (l.read.b ≡ words_of 16 20 l.j l.part 2)
    × (l.read.lows ≡ signeds_of 16 20 l.j l.part 3) × (l.read.highs ≡ signeds_of 16 20 l.j l.part 4)
