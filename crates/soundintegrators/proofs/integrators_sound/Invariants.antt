-- Before the turn of integrator i every integrator below it has passed.
use mathlib.Core.Bool.{true}
use mathlib.Core.Path.{◌≡◌}
use Rattle.plan.specs.Lists.{every}
use Rattle.soundintegrators.proofs.Laws.OneIntegrator.{figures_in}
use Rattle.soundintegrators.proofs.integrators_sound.Given as goal

abbrev pub invariant-loop-i : goal.invariant-loop-i
invariant-loop-i l =
    let r = l.run in every (figures_in l.plan.integrators.quanta l.slopes r.clocks.clock r.x r.q r.s r.l r.d) l.i ≡ true
