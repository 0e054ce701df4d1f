-- The loop's invariant: the first j entries are written, and the rest is as it was.
use Rattle.plan.specs.Lists.{joined}
use Rattle.plan.specs.Encoding.{input_entry}
use Rattle.sectionwriters.proofs.Laws.Writing.{BeginsWith}
use Rattle.sectionwriters.proofs.write_inputs.Given as goal

abbrev pub invariant-loop-j : goal.invariant-loop-j
invariant-loop-j l = BeginsWith (joined (input_entry l.inputs.firsts) l.j) l.initial.buffer l.buffer
