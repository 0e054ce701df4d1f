-- Laws: what lies ahead of a sound state, by document 01. Assumes nothing.
use Rattle.std.specs.Prelude.{◌≡◌}
use Rattle.std.proofs.Math.Path.{refl}
use Rattle.std.proofs.Common.{sym}
use Rattle.bitset.specs.Mask.{mask_of}
use Rattle.bitset.proofs.Laws.Bits.{mask_of_ext}
use Rattle.plan.proofs.Laws.CountLimits.{count-limits}
use Rattle.plan.specs.declared.Plan.{Plan}
use Rattle.machine.specs.Held.{entries_tick, next_tick}
use Rattle.machine.specs.Reach.{is_due, gives}
use Rattle.machine.specs.Instant.{next_tick_of}
use Rattle.machine.specs.Status.{status_of}
use Rattle.machine.proofs.Laws.SoundClauses.{SoundRunning}
use Rattle.machine.proofs.Laws.Woken.{gives_is}
use Rattle.machine.specs.declared.Running.{Running}
use Rattle.timing.proofs.Laws.Statuses.{given_ready, status_by_mask}
use Rattle.moves.specs.Motion.{motion_of}
use Rattle.engine.specs.declared.ahead.Ahead.{Ahead}
use Rattle.engine.specs.Ahead.{tick_ahead, due_ahead, ahead_of, AheadReady}

module _ (p : Plan) (r : Running) where
  tick_ahead_lem : tick_ahead p (motion_of r) r.clocks.next ≡ next_tick_of p r
  unfolding next_tick_of next_tick entries_tick
  tick_ahead_lem = refl

  due_ahead_lem : due_ahead p (motion_of r) r.clocks.next ≡ mask_of (is_due r.d (next_tick_of p r)) p.counts.n
  due_ahead_lem = rw tick_ahead_lem

  -- those that are due there give their positions as outputs
  given_ahead : mask_of (is_due r.d (next_tick_of p r)) p.counts.n ≡ mask_of (gives (is_due r.d (next_tick_of p r))) p.counts.n
  given_ahead = mask_of_ext _ _ p.counts.n (λ i h. sym (gives_is (is_due r.d (next_tick_of p r)) i))

  pub ahead-ready : SoundRunning p r → AheadReady p (motion_of r) r.clocks.next
  ahead-ready ok =
      let counts = count-limits p ok.plan.counts in
      record { few = counts.n; listed = counts.commands; positions = rw tick_ahead_lem (given_ready p r ok refl given_ahead) }

  -- what lies ahead of the figures r by document 01
  abbrev pub lies_ahead : Ahead
  lies_ahead = record { tick = next_tick_of p r; due = mask_of (is_due r.d (next_tick_of p r)) p.counts.n; status = status_of p r }

  pub ahead_is : ahead_of p (motion_of r) r.clocks.next ≡ lies_ahead
  ahead_is = rw (tick_ahead_lem, status_by_mask p r refl given_ahead)
