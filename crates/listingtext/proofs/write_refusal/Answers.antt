-- The word, and the numbers one behind the other.
use Rattle.std.specs.Prelude.{◌++◌}
use Rattle.listingtext.specs.Decimal.{decimal}
use Rattle.listingtext.specs.Lines.{space, newline, field, refused_word, refusal_line}
use Rattle.listingtext.proofs.Laws.Printing.{then_text, front_fits, more_fits}
use Rattle.listingtext.proofs.write_refusal.Goals as goal

pub write_text-first-requires : goal.write_text-first-requires
unfolding refusal_line
write_text-first-requires c =
    let number = field (decimal c.args.number) space in
    front_fits refused_word number (front_fits (refused_word ++ number) _ c.requires)

pub write_field-second-requires : goal.write_field-second-requires
unfolding refusal_line
write_field-second-requires c =
    let number = field (decimal c.args.number) space in
    more_fits c.write_text-first.ensures number (front_fits (refused_word ++ number) _ c.requires)

pub write_field-requires : goal.write_field-requires
unfolding refusal_line
write_field-requires c =
    let two = then_text c.write_text-first.ensures c.write_field-second.ensures in
    more_fits two (field (decimal c.args.entry) newline) c.requires

pub returns : goal.returns
unfolding refusal_line
returns c =
    let two = then_text c.write_text-first.ensures c.write_field-second.ensures in
    then_text two c.write_field.ensures
