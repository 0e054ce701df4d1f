-- An accepted file prints nothing yet, another its refusal.
use Rattle.std.proofs.Common.{arith}
use Rattle.listingturns.proofs.Laws.Fits.{refusal_fits}
use Rattle.listingturns.proofs.Laws.Answers.{first-accepted, first-refused, accepted_written, refused_written}
use Rattle.listingturns.proofs.begin_into.Goals as goal

pub returns-then-loaded-eq-ACCEPTED : goal.returns-then-loaded-eq-ACCEPTED
returns-then-loaded-eq-ACCEPTED c =
    let file = c.args.file.now in
    let accepted = c.if-loaded-eq-ACCEPTED.true in
    let written = accepted_written file c.load-loaded.ensures c.args.text.now accepted in
    record { size = written.0; answer = (first-accepted file c.load-loaded.ensures accepted).0; text = written.1 }

pub write_refusal-size-requires : goal.write_refusal-size-requires
write_refusal-size-requires c =
    let file = c.args.file.now in
    rw c.load-loaded.ensures (omega (arith, c.requires, refusal_fits file (record { byte = λ i. (c.type_inv.file i).fits })))

pub returns : goal.returns
returns c =
    let file = c.args.file.now in
    let refused = c.if-loaded-eq-ACCEPTED.false in
    let written = refused_written file c.load-loaded.ensures refused c.write_refusal-size.ensures in
    record { size = written.0; answer = (first-refused file c.load-loaded.ensures refused).0; text = written.1 }
