-- A refused file leaves the buffer; an accepted one has a plan that keeps the rules, and the writer's answer is 13 or the length.
use Rattle.std.proofs.Common.{◌≡◌, Err, refl, rules}
use Rattle.plan.proofs.Laws.FileRefusals.{accepted-rules}
use Rattle.planfile.proofs.Laws.Reading.{reading_plan, reading_accepts, reading_finding}
use Rattle.cup.proofs.Laws.Rewriting.{rewrite_refused_with, rewrite-answered}
use Rattle.cup.proofs.rewritten.Goals as goal

pub returns-in_err-plan : goal.returns-in_err-plan
returns-in_err-plan c =
    let told : c.from_residual.result ≡ Err c.in_err-plan.field-0.0 = search rules in
    rw told (rewrite_refused_with c.args.file.now c.args.buffer.now (reading_finding c.args.file.now c.in_err-plan.ensures refl))

pub write_plan-requires : goal.write_plan-requires
write_plan-requires c =
    let file = c.args.file.now in
    rw (reading_plan file c.in_ok-plan.ensures refl) (accepted-rules file (reading_accepts file c.in_ok-plan.ensures refl))

pub returns : goal.returns
returns c =
    let file = c.args.file.now in
    let wrote = rw (reading_plan file c.in_ok-plan.ensures refl) at c.write_plan.ensures in
    rw c.ok_or.ensures.value
    (rewrite-answered file c.args.buffer.now (reading_accepts file c.in_ok-plan.ensures refl) wrote.answer wrote.buffer)
