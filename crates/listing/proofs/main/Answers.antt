-- The state for the first turn is sound by what `begin_into` answers, and each further one by what `take_turn_into` does.
use Rattle.std.proofs.Common.{sym, ◌∙◌}
use Rattle.listingturns.proofs.Laws.Loop.{sound, first-ready, turn_ready, ticks_fall}
use Rattle.listing.proofs.main.Goals as goal

pub loop-turn-init : goal.loop-turn-init
loop-turn-init c = (
  sym c.event_space-records.ensures,
  c.begin_into-size.auto.text ∙ sym c.text_space-lines.ensures,
  first-ready _ c.begin_into-size.ensures.answer,
)

pub loop-turn-smaller : goal.loop-turn-smaller
loop-turn-smaller c =
    rw c.in-More.is (ticks_fall c.in-More.state (sound c.loop-turn.invariant.2 c.in-More.is) c.take_turn_into-size.ensures.answer)

pub loop-turn-preserved : goal.loop-turn-preserved
loop-turn-preserved c =
    let invariant = c.loop-turn.invariant in
    let turn = c.take_turn_into-size in (
      turn.auto.events ∙ invariant.0,
      turn.auto.text ∙ invariant.1,
      turn_ready c.in-More.state (sound invariant.2 c.in-More.is) turn.ensures.answer,
    )
