-- Each turn takes in one integrator more.
use mathlib.Core.Path.{◌∙◌}
use native.Mathlib.Omega.{arith}
use Rattle.timing.proofs.Laws.OnePass.{none_passed, one_more}
use Rattle.timing.proofs.soonest.soonest_of_few.Goals as goal

pub loop-i-init : goal.loop-i-init
loop-i-init c = none_passed _ _ (omega (arith, c.ranges.first))

pub loop-i-preserved : goal.loop-i-preserved
loop-i-preserved c = c.sooner-soonest.ensures ∙ rw c.loop-i.invariant (one_more _ c.args.first c.loop-i.i)
