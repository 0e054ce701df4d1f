-- The lowest that is left bars the instant, or is taken off.
use borrow.Author.Rules.{rules, sfits_of}
use mathlib.Core.Path.{◌≡◌, ◌∙◌}
use mathlib.Core.Bool.{true, false}
use native.Mathlib.Omega.{arith}
use mir.Syntax.{w64}
use mir.Facts.{to_z-of_z}
use Rattle.integers.specs.Range.{within}
use Rattle.integers.proofs.Laws.Signed64.{rd}
use Rattle.bitset.proofs.Laws.Visiting.{rest_lt}
use Rattle.plan.specs.Numbers.{M}
use Rattle.timing.proofs.Laws.Barring.{value_at, bars-none, bars-lowest, bars_rest, ready-lowest, ready_rest}
use Rattle.timing.proofs.status.lowest_barring.Goals.{After-position_at-value}
use Rattle.timing.proofs.status.lowest_barring.Goals as goal

-- the value that the lowest left would take
value : (c : After-position_at-value) → let m = c.args.motion.now in rd c.position_at-value.result ≡ value_at c.args.t m.x m.s m.l c.in-Some.i
value c =
    to_z-of_z {w = w64} (sfits_of c.position_at-value.type_inv) ∙ c.position_at-value.ensures

pub position_at-value-requires : goal.position_at-value-requires
position_at-value-requires c =
    let steps = c.in-Some.ensures.steps in
    (search rules, rw steps.1 (ready-lowest steps.0 c.loop-i.invariant.0 c.requires.0 _ _ _ _ c.loop-i.invariant.1))

pub returns-then-not-contains : goal.returns-then-not-contains
unfolding within
returns-then-not-contains c =
    let v = (goal.at.returns-then-not-contains c).After-position_at-value in let steps = c.in-Some.ensures.steps in
    let beyond : within M (rd c.position_at-value.result) ≡ false = search rules in
    steps.1
    ∙ bars-lowest steps.0 c.loop-i.invariant.0 c.requires.0 _ _ _ _ (rw (value v, steps.1) at beyond)
    ∙ c.loop-i.invariant.2

pub loop-i-preserved : goal.loop-i-preserved
unfolding within
loop-i-preserved c =
    let v = (goal.at.loop-i-preserved c).After-position_at-value in let steps = c.in-Some.ensures.steps in
    let l = c.loop-i in let few = c.requires.0 in
    let kept : within M (rd c.position_at-value.result) ≡ true = search rules in
    rw steps.2 (
      omega (arith, l.invariant.0, rest_lt l.i-iterator.left steps.0),
      ready_rest steps.0 l.invariant.0 few _ _ _ _ l.invariant.1,
      bars_rest steps.0 l.invariant.0 few _ _ _ _ (rw (value v, steps.1) at kept) ∙ l.invariant.2,
    )

pub returns : goal.returns
returns c = bars-none c.args.n _ _ _ _ c.in-None.ensures.steps.0 ∙ c.loop-i.invariant.2
