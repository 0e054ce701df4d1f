-- A refused file gives its refusal's number and entry and the idle state; an accepted one has a plan that keeps the rules, which starts.
use Rattle.std.proofs.Common.{refl}
use Rattle.plan.proofs.Laws.FileRefusals.{accepted-rules}
use Rattle.planfile.proofs.Laws.Reading.{reading_clean, reading_plan, reading_accepts, reading_finding}
use Rattle.machine.specs.Start.{start_state}
use Rattle.simulator.proofs.Laws.Answers.{load_refused_with, load_accepted}
use Rattle.simulator.proofs.load.Goals as goal

pub start-run-requires : goal.start-run-requires
start-run-requires c =
    let file = c.args.file.now in
    rw (reading_plan file c.in-Ok.ensures refl) (accepted-rules file (reading_accepts file c.in-Ok.ensures refl))

pub returns-in-Ok : goal.returns-in-Ok
unfolding start_state
returns-in-Ok c =
    let file = c.args.file.now in
    rw (c.start-run.ensures, reading_plan file c.in-Ok.ensures refl) (load_accepted file (reading_clean file c.in-Ok.ensures refl))

pub returns-in-Err : goal.returns-in-Err
returns-in-Err c =
    let file = c.args.file.now in
    rw (c.number.ensures, c.entry.ensures, c.idle.ensures) (load_refused_with file (reading_finding file c.in-Err.ensures refl))
