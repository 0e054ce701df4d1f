-- The loop's invariant: the pairs of the sections below this one are written, and the rest is as it was.
use Rattle.plan.specs.Lists.{joined}
use Rattle.plan.specs.Encoding.{pair_entry}
use Rattle.sectionwriters.proofs.Laws.Writing.{BeginsWith}
use Rattle.planwriter.proofs.write_pairs.Given as goal

abbrev pub invariant-loop-section : goal.invariant-loop-section
invariant-loop-section l = BeginsWith (joined (pair_entry l.counts) l.section) l.initial.buffer l.buffer
