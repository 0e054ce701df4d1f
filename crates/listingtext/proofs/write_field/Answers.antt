-- The number, and the byte behind it.
use Rattle.std.specs.Prelude.{[], ◌∷◌, ◌+◌, ◌≤◌, length}
use Rattle.std.proofs.Common.{arith, length-append}
use Rattle.listingtext.proofs.Laws.Printing.{in_part, then_byte_at}
use Rattle.listingtext.proofs.write_field.Goals as goal

pub returns : goal.returns
returns g c =
    let a = c.args in
    let digits = g.D.WrittenNumber.digits a.number in
    let room : a.at + (length digits + 1) ≤ length a.buffer.now = omega (arith, length-append digits (a.end ∷ [])) in
    then_byte_at (in_part a.at (omega arith) c.write.ensures) a.end (omega arith)
