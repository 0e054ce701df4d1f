-- 10 where the state is not sound, 14 where there is no such integrator, else its position at the clock.
use Rattle.std.proofs.Common.{◌≡◌, Bool, true, false, Option, sym, ◌∙◌, is_some, arith}
use borrow.Author.Rules.{rules, sfits_of}
use mir.Syntax.{w64}
use mir.Val.{SFits}
use mir.Facts.{to_z-of_z}
use Rattle.plan.specs.Lists.{int_at}
use Rattle.machine.specs.SoundTest.{is_sound}
use Rattle.machine.specs.declared.State.{State}
use Rattle.soundness.specs.Testing.{tested_of}
use Rattle.soundness.specs.declared.Tested.{Tested}
use Rattle.soundness.proofs.Laws.Answers.{sound_told}
use Rattle.simulator.proofs.Laws.Answers.{position-unsound, position-above, in-range, position-ready, position-known}
use Rattle.simulator.proofs.positions.position_tested.Goals as goal

-- what the test of the state says
told : (st : State) {t : Option Tested} {b : Bool} → t ≡ tested_of st → is_some t ≡ b → is_sound st ≡ b
told st answer some = sym (sound_told st answer) ∙ some

pub returns-then-is_none : goal.returns-then-is_none
returns-then-is_none c = position-unsound _ _ (told (record { plan = c.args.plan.now; run = c.args.run.now }) c.test_state.ensures c.if-is_none.ensures)

pub returns-then-integrator-plan : goal.returns-then-integrator-plan
returns-then-integrator-plan c =
    position-above _ _ (told (record { plan = c.args.plan.now; run = c.args.run.now }) c.test_state.ensures c.if-is_none.ensures) c.if-integrator-plan.true

-- ---- where there is such an integrator

pub offset_bounds-run-integrator : goal.offset_bounds-run-integrator
offset_bounds-run-integrator c =
    omega (arith, in-range _ _ (told (record { plan = c.args.plan.now; run = c.args.run.now }) c.test_state.ensures c.if-is_none.ensures) c.if-integrator-plan.false)

pub bounds-run-integrator : goal.bounds-run-integrator
bounds-run-integrator c = in-range _ _ (told (record { plan = c.args.plan.now; run = c.args.run.now }) c.test_state.ensures c.if-is_none.ensures) c.if-integrator-plan.false

pub offset_bounds-run-integrator-2 : goal.offset_bounds-run-integrator-2
offset_bounds-run-integrator-2 c =
    omega (arith, in-range _ _ (told (record { plan = c.args.plan.now; run = c.args.run.now }) c.test_state.ensures c.if-is_none.ensures) c.if-integrator-plan.false)

pub bounds-run-integrator-2 : goal.bounds-run-integrator-2
bounds-run-integrator-2 c = in-range _ _ (told (record { plan = c.args.plan.now; run = c.args.run.now }) c.test_state.ensures c.if-is_none.ensures) c.if-integrator-plan.false

pub offset_bounds-run-integrator-3 : goal.offset_bounds-run-integrator-3
offset_bounds-run-integrator-3 c =
    omega (arith, in-range _ _ (told (record { plan = c.args.plan.now; run = c.args.run.now }) c.test_state.ensures c.if-is_none.ensures) c.if-integrator-plan.false)

pub bounds-run-integrator-3 : goal.bounds-run-integrator-3
bounds-run-integrator-3 c = in-range _ _ (told (record { plan = c.args.plan.now; run = c.args.run.now }) c.test_state.ensures c.if-is_none.ensures) c.if-integrator-plan.false

pub position-requires : goal.position-requires
position-requires c =
    let run = c.args.run.now in let i = c.args.integrator in
    let x : SFits w64 (int_at run.x i) = record { sfits = search rules } in
    let s : SFits w64 (int_at run.s i) = record { sfits = search rules } in
    rw (to_z-of_z x, to_z-of_z s)
    (position-ready _ _ (told (record { plan = c.args.plan.now; run = c.args.run.now }) c.test_state.ensures c.if-is_none.ensures) c.if-integrator-plan.false)

pub returns : goal.returns
returns c =
    let run = c.args.run.now in let i = c.args.integrator in
    let x : SFits w64 (int_at run.x i) = record { sfits = search rules } in
    let s : SFits w64 (int_at run.s i) = record { sfits = search rules } in
    rw (to_z-of_z {w = w64} (sfits_of c.position.type_inv), c.position.ensures, to_z-of_z x, to_z-of_z s)
    (position-known _ _ (told (record { plan = c.args.plan.now; run = c.args.run.now }) c.test_state.ensures c.if-is_none.ensures) c.if-integrator-plan.false)
