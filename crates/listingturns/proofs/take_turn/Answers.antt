-- What was written is the turn's text, and fits.
use Rattle.std.proofs.Common.{arith}
use Rattle.listingturns.proofs.Laws.Fits.{texts_fit}
use Rattle.listingturns.proofs.Laws.Strings.{turn_utf8, front}
use Rattle.listingturns.proofs.take_turn.Goals as goal

pub set_text-requires : goal.set_text-requires
set_text-requires g c =
    let st = c.args.state in
    let written = c.take_turn_into-size.ensures in
    (omega (arith, g.N.fits), rw (front _ _ written.size written.text) (turn_utf8 st, omega (arith, c.requires.room.1, texts_fit.0 st c.requires.sound)))
