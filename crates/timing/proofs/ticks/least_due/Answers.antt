-- Each turn takes in four due ticks more, or one.
use mathlib.Core.Path.{◌≡◌, refl, sym, ◌∙◌}
use Prim.Native.Nat.{◌+◌, ◌*◌}
use native.Mathlib.Omega.{arith}
use Rattle.machine.specs.Next.{least_due}
use Rattle.timing.proofs.Laws.LeastDue.{one-due_more, four_dues_more}
use Rattle.timing.proofs.ticks.least_due.Goals as goal

pub loop-k-init : goal.loop-k-init
unfolding least_due
loop-k-init c = refl

pub loop-k-preserved : goal.loop-k-preserved
loop-k-preserved c =
    let l = c.loop-k in let next : 4 * (l.k + 1) ≡ 4 * l.k + 4 = omega arith in
    c.earliest_of_four-least.ensures ∙ rw (l.invariant, next) (sym (four_dues_more _ (4 * l.k)))

pub loop-i-preserved : goal.loop-i-preserved
loop-i-preserved c = let l = c.loop-i in c.min-least.ensures ∙ rw l.invariant (sym (one-due_more _ l.i))
