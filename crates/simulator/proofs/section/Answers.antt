-- Where nothing is found the file is accepted, and its directory keeps its rules.
use Rattle.std.proofs.Common.{sym, ◌∙◌, refl, arith}
use Rattle.plan.proofs.Laws.View.{view-shown, view-refused, view-above, start-shown, start-refused, start-above}
use Rattle.directory.proofs.Laws.Directory.{directory_accepted}
use Rattle.directory.proofs.Laws.Pointers.{further-none}
use Rattle.planfile.proofs.Laws.Reading.{finding_accepts, refusal_refuses}
use Rattle.simulator.proofs.section.Goals as goal

pub returns-then-number-ge-SECTIONS : goal.returns-then-number-ge-SECTIONS
returns-then-number-ge-SECTIONS c =
    let a = c.args in
    record {
      answer = sym (view-above a.file.now a.number (omega arith));
      place = rw (start-above a.file.now a.number (omega arith)) (further-none a.file.ref_ptr);
    }

pub returns-in_default : goal.returns-in_default
returns-in_default c =
    let a = c.args in
    let refuses = refusal_refuses a.file.now c.in_default.ensures refl in
    record {
      answer = sym (view-refused a.file.now a.number refuses);
      place = rw (start-refused a.file.now a.number refuses) (further-none a.file.ref_ptr);
    }

pub section_in-requires : goal.section_in-requires
section_in-requires c =
    let a = c.args in
    let accepts = finding_accepts a.file.now c.in-Ok.ensures refl in
    (directory_accepted a.file.now accepts, omega arith)

pub returns : goal.returns
returns c =
    let a = c.args in
    let accepts = finding_accepts a.file.now c.in-Ok.ensures refl in
    let shown = view-shown a.file.now a.number accepts (omega arith) in
    let start = start-shown a.file.now a.number accepts (omega arith) in
    record { answer = c.section_in.ensures.answer ∙ sym shown; place = rw start c.section_in.ensures.place }
