-- A plan that is not sound is answered at once. One that is keeps its rules, which the test of the running figures asks.
use mathlib.Core.Bool.{true}
use mathlib.Core.Path.{◌≡◌}
use Rattle.machine.specs.SoundTest.{plan_sound}
use Rattle.entryrules.proofs.Laws.Testing.{true_by_answer, false_by_answer}
use Rattle.soundness.proofs.Laws.Answers.{sound-rules, plan-unsound, plan_passed}
use Rattle.soundness.proofs.test_state.Goals.{Start, Else-not-plan_sound}
use Rattle.soundness.proofs.test_state.Goals as goal

pub returns-then-not-plan_sound : goal.returns-then-not-plan_sound
returns-then-not-plan_sound c =
    plan-unsound _ c.args.run.now (false_by_answer {test = plan_sound c.args.plan.now} c.plan_sound.ensures c.if-not-plan_sound.true)

-- behind the test
sound : (c : Else-not-plan_sound) → plan_sound c.args.plan.now ≡ true
sound c = true_by_answer c.plan_sound.ensures c.if-not-plan_sound.false

pub running_tested-requires : goal.running_tested-requires
running_tested-requires c =
    sound-rules _ (sound (goal.at.running_tested-requires c).Else-not-plan_sound)

pub returns : goal.returns
returns c =
    plan_passed _ c.args.run.now (sound (goal.at.returns c).Else-not-plan_sound) c.running_tested.ensures
