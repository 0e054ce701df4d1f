-- What was written is the refusal, or nothing, and fits.
use Rattle.std.proofs.Common.{arith}
use Rattle.listingturns.proofs.Laws.Fits.{texts_fit}
use Rattle.listingturns.proofs.Laws.Strings.{begin_utf8, front}
use Rattle.listingturns.proofs.begin.Goals as goal

pub set_text-requires : goal.set_text-requires
set_text-requires g c =
    let file = c.args.file.now in
    let written = c.begin_into-size.ensures in
    let fits = texts_fit.1 file (record { byte = λ i. (c.type_inv.file i).fits }) in
    (omega (arith, g.N.fits), rw (front _ _ written.size written.text) (begin_utf8 file, omega (arith, c.requires, fits)))
