-- What is read of an event is its line, which fits behind the lines before it.
use Rattle.std.specs.Prelude.{List, ℕ, ◌+◌, ◌≤◌, ◌<◌, length}
use Rattle.std.proofs.Common.{◌∙◌, arith}
use Rattle.std.proofs.lemmas.Int.{to_z-of_z}
use Rattle.std.specs.Int.{w64}
use Rattle.words.proofs.Laws.Putting.{length_behind}
use Rattle.listingtext.specs.Lines.{line_at, lines_of}
use Rattle.listingtext.specs.Printed.{Printed}
use Rattle.listingtext.proofs.Laws.Lines.{lines_more, lines_fit, begun, line_read}
use Rattle.listingtext.proofs.Laws.Printing.{then_text, in_part, more_fits}
use Rattle.listingtext.proofs.write_lines.Goals as goal

-- room for the line of event i
room : (bytes : List ℕ) {buffer s : List ℕ} (i : ℕ) {at : ℕ} (k : ℕ) → Printed (lines_of bytes i) buffer at s → i < k → length (lines_of bytes k) ≤ length buffer
    → at + length (line_at bytes i) ≤ length s
room bytes i k p h l = more_fits p (line_at bytes i) (omega (arith, lines_fit bytes i k h))

pub loop-i-init : goal.loop-i-init
loop-i-init c = begun c.args.events.now c.args.buffer.now

pub write_event-at-requires : goal.write_event-at-requires
write_event-at-requires c =
    let l = c.loop-i in
    let value = to_z-of_z w64 c.read_i32-value.result (record { sfits = c.read_i32-value.type_inv }) ∙ c.read_i32-value.ensures in
    let line = line_read c.args.events.now l.i c.read_u32-tick.ensures.answer c.read_u32-source.ensures.answer value in
    rw line (omega (arith, room c.args.events.now l.i c.args.count l.invariant c.loop-i-test.true c.requires.1, length_behind l.buffer l.at))

pub loop-i-preserved : goal.loop-i-preserved
loop-i-preserved c =
    let l = c.loop-i in
    let value = to_z-of_z w64 c.read_i32-value.result (record { sfits = c.read_i32-value.type_inv }) ∙ c.read_i32-value.ensures in
    let line = line_read c.args.events.now l.i c.read_u32-tick.ensures.answer c.read_u32-source.ensures.answer value in
    let inside : l.at ≤ length l.buffer = omega (arith, room c.args.events.now l.i c.args.count l.invariant c.loop-i-test.true c.requires.1) in
    let next = in_part l.at inside (rw line at c.write_event-at.ensures) in
    rw (lines_more c.args.events.now l.i) (then_text l.invariant next)
