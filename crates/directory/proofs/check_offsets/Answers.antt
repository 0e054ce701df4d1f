-- An offset that differs decides. Behind the last section the length does.
use borrow.Author.Tests.{eq-eqb, ne_eqb}
use native.Mathlib.Omega.{arith}
use native.Mathlib.Numerals.{add-one}
use mathlib.Core.Path.{◌≡◌, refl, sym}
use lib.Dec.{eqb}
use lib.ListN.{length}
use Rattle.plan.specs.Numbers.{sections}
use Rattle.plan.specs.Format.{offset_in, required_offset}
use Rattle.plan.specs.Tests.{offsets_kept}
use Rattle.entryrules.proofs.Laws.Testing.{every-none, every_more, every_fails}
use Rattle.directory.proofs.check_offsets.Goals.{After-loop-section}
use Rattle.directory.proofs.check_offsets.Goals as goal

pub loop-section-init : goal.loop-section-init
unfolding required_offset
loop-section-init c = (every-none _, refl)

pub returns-then-offset-start : goal.returns-then-offset-start
unfolding offsets_kept
returns-then-offset-start c =
    let b = c.loop-section in
    let file = c.args.file.now in
    let differs = ne_eqb (offset_in file b.section) (required_offset file b.section) (λ e. omega arith) in
    sym (rw (every_fails _ sections b.section (omega arith) differs))

pub loop-section-preserved : goal.loop-section-preserved
unfolding required_offset
loop-section-preserved c =
    let b = c.loop-section in
    let file = c.args.file.now in
    let same = eq-eqb (offset_in file b.section) (required_offset file b.section) (omega arith) in
    (every_more _ b.invariant.0 same, rw add-one (omega arith))

-- behind the last section every offset is right, and `start` is where the file is to end
ended : (c : After-loop-section) → let file = c.args.file.now in
    offsets_kept file ≡ eqb (length file) c.loop-section.start
unfolding offsets_kept
ended c =
    let b = c.loop-section in
    let is : b.section ≡ sections = omega arith in
    rw (← is, b.invariant.0, b.invariant.1)

pub returns-then-file-start : goal.returns-then-file-start
returns-then-file-start c = sym (rw (ended (goal.at.returns-then-file-start c).After-loop-section, eq-eqb _ _ c.if-file-start.true))

pub returns-else-file-start : goal.returns-else-file-start
returns-else-file-start c = sym (rw (ended (goal.at.returns-else-file-start c).After-loop-section, ne_eqb _ _ c.if-file-start.false))
