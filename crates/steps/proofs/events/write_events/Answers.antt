-- A turn writes the event of the lowest source that is left, and there is room for it.
use mathlib.Core.List.{[], ◌∷◌}
use native.Mathlib.Omega.{arith}
use Rattle.words.specs.Word.{word_of}
use Rattle.words.proofs.Laws.Putting.{rd32, length_behind}
use Rattle.plan.specs.Lists.{int_at}
use Rattle.machine.specs.Instant.{bytes_of_event}
use Rattle.steps.proofs.Laws.Buffers.{put_back}
use Rattle.steps.proofs.Laws.EventTurns.{finished, room, source_lt, value-small, turn}
use Rattle.steps.proofs.events.write_events.Goals as goal

pub write_triple-requires : goal.write_triple-requires
write_triple-requires c =
    let taken = c.in-Some.ensures.steps in
    let l = c.loop-source in
    let small = value-small l.invariant taken.0 taken.1 in (
      omega (arith, length_behind l.buffer l.end, room l.invariant taken.0 taken.1),
      c.ranges.t.fits,
      omega (arith, source_lt l.invariant taken.0 taken.1),
      rw (rd32 (int_at c.args.values.now c.in-Some.source) small) small,
    )

pub loop-source-preserved : goal.loop-source-preserved
unfolding bytes_of_event
loop-source-preserved c =
    let taken = c.in-Some.ensures.steps in
    let l = c.loop-source in
    let a = c.args in
    let value = int_at a.values.now c.in-Some.source in
    let event = a.t ∷ c.in-Some.source ∷ word_of value ∷ [] in
    let small = value-small l.invariant taken.0 taken.1 in
    turn l.invariant taken.0 taken.1 taken.2
    (put_back l.buffer l.end event (rw (rd32 value small) at c.write_triple.ensures))

pub returns : goal.returns
returns c =
    let f = finished c.loop-source.invariant c.in-None.ensures.steps.0 in record { end = f.0; buffer = f.1 }
