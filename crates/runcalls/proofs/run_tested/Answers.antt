-- 10 where the state is not sound, 11 where the budget is above its limit, 12 where the buffer is short, else the engine's answer.
use Rattle.std.proofs.Common.{◌≡◌, true, ◌≤◌, arith}
use Rattle.plan.proofs.Laws.CountLimits.{CountLimits, count-limits}
use Rattle.machine.specs.Runs.{events_most, room_of}
use Rattle.machine.specs.SoundTest.{is_sound}
use Rattle.machine.proofs.Laws.SoundTest.{test_clauses}
use Rattle.soundness.proofs.Laws.Answers.{some_told, none_told}
use Rattle.calls.proofs.Proofs.StateLimits.{room_most}
use Rattle.runcalls.proofs.Laws.Answers.{run-unsound, run-above, run_short, run-ready, run-accepted}
use Rattle.runcalls.proofs.run_tested.Goals.{In-Some}
use Rattle.runcalls.proofs.run_tested.Goals as goal

pub returns-in_default : goal.returns-in_default
returns-in_default c = run-unsound _ _ _ _ (none_told c.args.state.now c.in_default.ensures)

-- ---- where the state is sound

module _ (c : In-Some) where
  sound : is_sound c.args.state.now ≡ true
  sound = (some_told c.args.state.now c.in-Some.ensures).0

  limits : CountLimits c.args.state.now.plan
  limits = count-limits _ ((test_clauses c.args.state.now).0 sound).plan.counts

  room_fits : c.args.budget ≤ 1024 → room_of c.args.state.now.plan c.args.budget ≤ 491520
  room_fits few = room_most _ limits _ 1024 few

pub returns-then-budget-gt-LARGEST_BUDGET : goal.returns-then-budget-gt-LARGEST_BUDGET
returns-then-budget-gt-LARGEST_BUDGET c =
    run-above _ _ _ _ (sound (goal.at.returns-then-budget-gt-LARGEST_BUDGET c).In-Some) c.if-budget-gt-LARGEST_BUDGET.true

-- ---- where the budget is within its limit

pub overflow_add-needed : goal.overflow_add-needed
overflow_add-needed c = let limits = limits (goal.at.overflow_add-needed c).In-Some in omega (arith, limits.n, limits.m)

pub overflow_mul-needed : goal.overflow_mul-needed
unfolding room_of events_most
overflow_mul-needed c = omega (arith, room_fits (goal.at.overflow_mul-needed c).In-Some c.if-budget-gt-LARGEST_BUDGET.false)

pub overflow_mul-needed-2 : goal.overflow_mul-needed-2
unfolding room_of events_most
overflow_mul-needed-2 c = omega (arith, room_fits (goal.at.overflow_mul-needed-2 c).In-Some c.if-budget-gt-LARGEST_BUDGET.false)

pub returns-then-buffer-needed : goal.returns-then-buffer-needed
unfolding room_of events_most
returns-then-buffer-needed c =
    run_short _ _ _ _ (sound (goal.at.returns-then-buffer-needed c).In-Some) c.if-budget-gt-LARGEST_BUDGET.false c.if-buffer-needed.true

-- ---- where the buffer has room

pub run-ended-requires : goal.run-ended-requires
unfolding room_of events_most
run-ended-requires c =
    run-ready c.args.engine _ _ _ (sound (goal.at.run-ended-requires c).In-Some) c.if-budget-gt-LARGEST_BUDGET.false c.if-buffer-needed.false
    (some_told c.args.state.now c.in-Some.ensures).1

pub returns : goal.returns
unfolding room_of events_most
returns c =
    run-accepted _ _ _ _ (sound (goal.at.returns c).In-Some) c.if-budget-gt-LARGEST_BUDGET.false c.if-buffer-needed.false
    c.run-ended.ensures.answer c.run-ended.ensures.buffer
