-- The loop's invariant: the first i entries are written, and the rest is as it was.
use Rattle.plan.specs.Lists.{joined}
use Rattle.plan.specs.Encoding.{integrator_entry}
use Rattle.sectionwriters.proofs.Laws.Writing.{BeginsWith}
use Rattle.sectionwriters.proofs.write_integrators.Given as goal

abbrev pub invariant-loop-i : goal.invariant-loop-i
invariant-loop-i l = BeginsWith (joined (integrator_entry l.integrators.starts l.integrators.quanta) l.i) l.initial.buffer l.buffer
