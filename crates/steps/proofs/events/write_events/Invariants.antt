-- The events of the sources that are left, from the place behind the last event on, end
-- as all of them end from the first place on.
use Rattle.steps.proofs.Laws.EventTurns.{Writing}
use Rattle.steps.proofs.events.write_events.Given as goal

abbrev pub invariant-loop-source : goal.invariant-loop-source
invariant-loop-source l = Writing l.t l.values l.changed l.at l.initial.buffer l.source-iterator.left l.end l.buffer
