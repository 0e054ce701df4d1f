-- Laws: the events of a run are bytes, and they fit into the room that the run asks for. Assumes nothing.
use Rattle.std.specs.Prelude.{Bool, cond, length}
use Rattle.std.proofs.Math.Bool.{true, false}
use mathlib.Core.List.{List, [], ◌++◌}
use Prim.Native.Nat.{ℕ, zero, suc, ◌*◌, ◌≤◌}
use native.Mathlib.Omega.{arith}
use Rattle.std.proofs.Common.{length-append}
use Rattle.words.specs.Word.{Bytes}
use Rattle.words.proofs.Laws.Reading.{bytes-append}
use Rattle.plan.specs.Numbers.{event_bytes}
use Rattle.plan.specs.declared.Plan.{Plan}
use Rattle.machine.specs.Held.{held_of}
use Rattle.machine.specs.Reach.{is_due}
use Rattle.machine.specs.Instant.{position_at, next_tick_of, instant, events_of}
use Rattle.machine.specs.Status.{running_paused}
use Rattle.machine.specs.Runs.{events_of_run, events_most, room_of}
use Rattle.machine.proofs.Laws.SelectedBlocks.{no_bytes}
use Rattle.machine.proofs.Laws.OutcomeEvents.{outcome-room, outcome-bytes}
use Rattle.machine.specs.declared.Running.{Running}
use Rattle.machine.specs.declared.Engine.{Engine}

module _ (p : Plan) where
  pub instant-bytes : (r : Running) → length (events_of p r) ≤ events_most p * event_bytes
  unfolding events_of
  instant-bytes r = let t = next_tick_of p r in outcome-room p t (is_due r.d t) (position_at r t) (held_of r)

  instant_are_bytes : (r : Running) → Bytes (events_of p r)
  unfolding events_of
  instant_are_bytes r = let t = next_tick_of p r in outcome-bytes p t (is_due r.d t) (position_at r t) (held_of r)

  pub run-bytes : (engine : Engine) (b : ℕ) (r : Running) → length (events_of_run p engine b r) ≤ room_of p b
  unfolding events_of_run room_of
  run-bytes engine zero r = omega arith
  run-bytes engine (suc b) r = go (running_paused p r) (run-bytes engine b (instant p engine r))
    where
      rest : List ℕ
      rest = events_of_run p engine b (instant p engine r)

      go : (c : Bool) → length rest ≤ b * events_most p * event_bytes → length (cond c (events_of p r ++ rest) []) ≤ suc b * events_most p * event_bytes
      go true h = omega (arith, length-append (events_of p r) rest, instant-bytes r)
      go false h = omega arith

  -- each is below 256
  pub events_are_bytes : (engine : Engine) (b : ℕ) (r : Running) → Bytes (events_of_run p engine b r)
  unfolding events_of_run
  events_are_bytes engine zero r = no_bytes
  events_are_bytes engine (suc b) r = go (running_paused p r) (events_are_bytes engine b (instant p engine r))
    where
      go : (c : Bool) → Bytes (events_of_run p engine b (instant p engine r)) → Bytes (cond c (events_of p r ++ events_of_run p engine b (instant p engine r)) [])
      go true h = bytes-append (instant_are_bytes r) h
      go false h = no_bytes
