-- The loop's invariant: the first e entries are written, and the rest is as it was.
use Rattle.plan.specs.Lists.{joined}
use Rattle.plan.specs.Encoding.{triple_entry}
use Rattle.sectionwriters.proofs.Laws.Writing.{BeginsWith}
use Rattle.sectionwriters.proofs.write_links.Given as goal

abbrev pub invariant-loop-e : goal.invariant-loop-e
invariant-loop-e l = BeginsWith (joined (triple_entry l.links.targets l.links.sources l.links.coefficients) l.e) l.initial.buffer l.buffer
