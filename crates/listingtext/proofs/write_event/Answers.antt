-- The three parts of the line, each behind those before it.
use Rattle.std.specs.Prelude.{◌++◌}
use Rattle.std.proofs.Common.{to_z-of_z}
use Rattle.listingtext.specs.Decimal.{decimal, signed_decimal}
use Rattle.listingtext.specs.Lines.{space, newline, field, event_line}
use Rattle.listingtext.proofs.Laws.Printing.{nothing, then_text, front_fits, more_fits}
use Rattle.listingtext.proofs.write_event.Goals as goal

pub write_field-second-requires : goal.write_field-second-requires
unfolding event_line
write_field-second-requires c =
    let tick = field (decimal c.args.tick) space in
    let source = field (decimal c.args.source) space in
    more_fits (nothing c.args.buffer.now) tick (front_fits tick source (front_fits (tick ++ source) _ c.requires))

pub write_field-third-requires : goal.write_field-third-requires
unfolding event_line
write_field-third-requires c =
    let tick = field (decimal c.args.tick) space in
    let source = field (decimal c.args.source) space in
    let one = then_text (nothing c.args.buffer.now) c.write_field-second.ensures in
    more_fits one source (front_fits (tick ++ source) _ c.requires)

pub write_field-requires : goal.write_field-requires
unfolding event_line
write_field-requires c =
    let one = then_text (nothing c.args.buffer.now) c.write_field-second.ensures in
    let two = then_text one c.write_field-third.ensures in
    rw (to_z-of_z c.ranges.value) (more_fits two (field (signed_decimal c.args.value) newline) c.requires)

pub returns : goal.returns
unfolding event_line
returns c =
    let one = then_text (nothing c.args.buffer.now) c.write_field-second.ensures in
    let two = then_text one c.write_field-third.ensures in
    then_text two (rw (to_z-of_z c.ranges.value) at c.write_field.ensures)
