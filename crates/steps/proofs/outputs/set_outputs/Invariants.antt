-- The outputs of those that have been taken are set.
use Rattle.bitset.proofs.Laws.Visiting.{Walking}
use Rattle.steps.specs.Outputs.{after_output}
use Rattle.steps.proofs.outputs.set_outputs.Given as goal

abbrev pub invariant-loop-i : goal.invariant-loop-i
invariant-loop-i l =
    let m = l.motion in Walking (after_output l.t m.x m.s m.l) 32 l.due l.initial.values l.i-iterator.left l.values
