-- The numbers go to the call as bits, and are read back from them there.
use borrow.Author.Rules.{rules}
use mathlib.Core.Path.{◌≡◌, sym}
use mir.Facts.{to_z-of_z}
use mir.Syntax.{w64}
use mir.Val.{SFits}
use Rattle.plan.specs.Lists.{int_at}
use Rattle.entryrules.proofs.Laws.Testing.{every_more, every_fails, true_by_answer, false_by_answer}
use Rattle.timing.proofs.Laws.Arithmetic.{upper_made, lower_made, upper-read, lower-read}
use Rattle.soundintegrators.proofs.Laws.OneIntegrator.{figures_in}
use Rattle.soundintegrators.proofs.integrators_sound.Goals.{After-figures_sound}
use Rattle.soundintegrators.proofs.integrators_sound.Goals as goal

pub overflow_add-upper : goal.overflow_add-upper
overflow_add-upper c = upper_made (c.requires.1 _ c.loop-i-test.true).level (search rules) (search rules)

pub overflow_sub-lower : goal.overflow_sub-lower
overflow_sub-lower c = lower_made (c.requires.1 _ c.loop-i-test.true).level (search rules) (search rules)

pub figures_sound-requires : goal.figures_sound-requires
figures_sound-requires c =
    let a = c.args in let i = c.loop-i.i in let ready = c.requires.1 i c.loop-i-test.true in
    let fq : SFits w64 (int_at a.run.now.q i) = search rules in let fb : SFits w64 (int_at a.plan.now.integrators.quanta i) = search rules in
    let slope : SFits w64 (int_at a.slopes.now i) = search rules in
    rw (upper-read ready.level fq fb, lower-read ready.level fq fb, to_z-of_z slope) ready.figures

-- what the call has said of the integrator whose turn it is
answer : (c : After-figures_sound) → let a = c.args in
    let r = a.run.now in c.figures_sound.result ≡ figures_in a.plan.now.integrators.quanta a.slopes.now r.clocks.clock r.x r.q r.s r.l r.d c.loop-i.i
answer c =
    let a = c.args in let i = c.loop-i.i in let ready = c.requires.1 i c.loop-i-test.true in
    let fq : SFits w64 (int_at a.run.now.q i) = search rules in let fb : SFits w64 (int_at a.plan.now.integrators.quanta i) = search rules in
    let slope : SFits w64 (int_at a.slopes.now i) = search rules in
    let fx : SFits w64 (int_at a.run.now.x i) = search rules in let fs : SFits w64 (int_at a.run.now.s i) = search rules in
    rw (upper-read ready.level fq fb, lower-read ready.level fq fb, to_z-of_z slope, to_z-of_z fx, to_z-of_z fs) at c.figures_sound.ensures

pub returns-then-not-figures_sound : goal.returns-then-not-figures_sound
returns-then-not-figures_sound c =
    let called = (goal.at.returns-then-not-figures_sound c).After-figures_sound in
    sym (every_fails _ _ _ c.loop-i-test.true (false_by_answer (answer called) c.if-not-figures_sound.true))

pub loop-i-preserved : goal.loop-i-preserved
loop-i-preserved c =
    let called = (goal.at.loop-i-preserved c).After-figures_sound in
    every_more _ c.loop-i.invariant (true_by_answer (answer called) c.if-not-figures_sound.false)
