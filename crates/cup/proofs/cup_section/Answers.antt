-- Behind the test the file is accepted and the number is a section's, so its offset and its part can be read.
use Rattle.std.specs.Prelude.{◌≡◌, ◌<◌, length}
use Rattle.std.proofs.Common.{sym, ap, ◌∙◌, arith}
use Rattle.plan.specs.Refusals.{section_of, section_start}
use Rattle.plan.proofs.Laws.View.{view-shown, start-shown}
use Rattle.directory.proofs.Laws.Directory.{directory_accepted}
use Rattle.cup.proofs.Laws.Viewing.{first-refused, first-accepted, none-refused, none_above, view-part}
use Rattle.cup.proofs.cup_section.Goals.{then-integrators-eq0-via-then-integrators-eq0, then-integrators-eq0-via-else-integrators-eq0+then-number-ge-SECTIONS}
use Rattle.cup.proofs.cup_section.Goals as goal

pub returns-then-integrators-eq0 : goal.returns-then-integrators-eq0
returns-then-integrators-eq0 c =
    let a = c.args in
    let first = ap length c.section-integrators.ensures.answer in
    let none : (length (section_of a.file.now a.number) ≡ 0) × (section_start a.file.now a.number ≡ 0) =
    elim c.then-integrators-eq0.branch [
      | then-integrators-eq0-via-then-integrators-eq0 w ↦
          none-refused a.file.now a.number (first-refused a.file.now (sym first ∙ w.if-integrators-eq0.true))
      | then-integrators-eq0-via-else-integrators-eq0+then-number-ge-SECTIONS w ↦ none_above a.file.now a.number w.if-number-ge-SECTIONS.true
    ]
    in
    record { answer = sym none.0; offset = sym none.1; part = rw (none.1, none.0) at (view-part a.file.now a.number) }

pub offset_in-requires : goal.offset_in-requires
offset_in-requires c =
    let some = first-accepted c.args.file.now (λ e. c.if-integrators-eq0.false (ap length c.section-integrators.ensures.answer ∙ e)) in
    ((directory_accepted c.args.file.now some).long, omega arith)

pub section_in-requires : goal.section_in-requires
section_in-requires c =
    let some = first-accepted c.args.file.now (λ e. c.if-integrators-eq0.false (ap length c.section-integrators.ensures.answer ∙ e)) in
    (directory_accepted c.args.file.now some, omega arith)

pub returns : goal.returns
returns c =
    let a = c.args in
    let some = first-accepted a.file.now (λ e. c.if-integrators-eq0.false (ap length c.section-integrators.ensures.answer ∙ e)) in
    let known : a.number < 5 = omega arith in
    let size = ap length (c.section_in.ensures.answer ∙ sym (view-shown a.file.now a.number some known)) in
    let at = c.offset_in.ensures.answer ∙ sym (start-shown a.file.now a.number some known) in
    record { answer = size; offset = at; part = rw (at, size) (view-part a.file.now a.number) }
