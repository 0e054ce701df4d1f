-- 10 where the state is not sound; else its plan keeps the rules, and the writer's answer is 13 or the length.
use Rattle.std.proofs.Common.{sym, ◌∙◌}
use Rattle.machine.proofs.Laws.SoundTest.{test_clauses}
use Rattle.soundness.proofs.Laws.Answers.{sound_told}
use Rattle.simulator.proofs.Laws.Answers.{write-unsound, write-answered}
use Rattle.simulator.proofs.writing.write_tested.Goals as goal

pub returns-then-is_none : goal.returns-then-is_none
returns-then-is_none c = write-unsound _ _ (sym (sound_told (record { plan = c.args.plan.now; run = c.args.run.now }) c.test_state.ensures) ∙ c.if-is_none.ensures)

pub write_plan-requires : goal.write_plan-requires
write_plan-requires c =
    ((test_clauses (record { plan = c.args.plan.now; run = c.args.run.now })).0 (sym (sound_told (record { plan = c.args.plan.now; run = c.args.run.now }) c.test_state.ensures) ∙ c.if-is_none.ensures)).plan

pub returns : goal.returns
returns c =
    let yes = sym (sound_told (record { plan = c.args.plan.now; run = c.args.run.now }) c.test_state.ensures) ∙ c.if-is_none.ensures in
    rw c.ok_or.ensures.value (write-answered _ _ yes c.write_plan.ensures.answer c.write_plan.ensures.buffer)
