-- The state for the turn is sound by what `begin` answers.
use Rattle.std.proofs.Common.{arith}
use Rattle.listingturns.proofs.Laws.Loop.{sound, first-ready}
use Rattle.listingtests.proofs.tests.cup_is_listed.Goals as goal

pub take_turn-next-requires : goal.take_turn-next-requires
take_turn-next-requires g c =
    let ready = first-ready _ c.begin-first.ensures.answer in
    (omega arith, (sound ready c.in-More.is, (omega arith, omega arith)))
