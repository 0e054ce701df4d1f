-- The word, and the numbers one behind the other.
use Rattle.std.specs.Prelude.{◌≤◌, List, ◌++◌, ℕ, length}
use Rattle.listingtext.specs.Decimal.{decimal}
use Rattle.listingtext.specs.Lines.{space, newline, field, end_word, end_line}
use Rattle.listingtext.proofs.Laws.Printing.{then_text, front_fits, more_fits}
use Rattle.listingtext.proofs.write_end.Goals as goal

-- the line so far, by its parts, and what fits where the line does
module _ (status clock instants updates : ℕ) where
  abbrev up_to_status : List ℕ
  up_to_status = end_word ++ field (decimal status) space

  abbrev up_to_clock : List ℕ
  up_to_clock = up_to_status ++ field (decimal clock) space

  abbrev up_to_instants : List ℕ
  up_to_instants = up_to_clock ++ field (decimal instants) space

  module _ {room : ℕ} (h : length (end_line status clock instants updates) ≤ room) where
    instants_fit : length up_to_instants ≤ room
    unfolding end_line
    instants_fit = front_fits up_to_instants _ h

    clock_fits : length up_to_clock ≤ room
    clock_fits = front_fits up_to_clock _ instants_fit

    status_fits : length up_to_status ≤ room
    status_fits = front_fits up_to_status _ clock_fits

pub write_text-first-requires : goal.write_text-first-requires
write_text-first-requires c =
    let a = c.args in
    front_fits end_word (field (decimal a.status) space) (status_fits a.status a.clock a.instants a.updates c.requires)

pub write_field-second-requires : goal.write_field-second-requires
write_field-second-requires c =
    let a = c.args in
    more_fits c.write_text-first.ensures (field (decimal a.status) space) (status_fits a.status a.clock a.instants a.updates c.requires)

pub write_field-third-requires : goal.write_field-third-requires
write_field-third-requires c =
    let a = c.args in
    let two = then_text c.write_text-first.ensures c.write_field-second.ensures in
    more_fits two (field (decimal a.clock) space) (clock_fits a.status a.clock a.instants a.updates c.requires)

pub write_field-fourth-requires : goal.write_field-fourth-requires
write_field-fourth-requires c =
    let a = c.args in
    let two = then_text c.write_text-first.ensures c.write_field-second.ensures in
    let three = then_text two c.write_field-third.ensures in
    more_fits three (field (decimal a.instants) space) (instants_fit a.status a.clock a.instants a.updates c.requires)

pub write_field-requires : goal.write_field-requires
unfolding end_line
write_field-requires c =
    let two = then_text c.write_text-first.ensures c.write_field-second.ensures in
    let three = then_text two c.write_field-third.ensures in
    let four = then_text three c.write_field-fourth.ensures in
    more_fits four (field (decimal c.args.updates) newline) c.requires

pub returns : goal.returns
unfolding end_line
returns c =
    let two = then_text c.write_text-first.ensures c.write_field-second.ensures in
    let three = then_text two c.write_field-third.ensures in
    let four = then_text three c.write_field-fourth.ensures in
    then_text four c.write_field.ensures
