-- Laws: a run ends: with the ticks that are left for a budget its status is 1 or 2, and a larger budget changes nothing. Assumes nothing.
use Rattle.std.specs.Prelude.{◌≡◌, Bool, cond, ◌++◌, replicate}
use Rattle.std.proofs.Math.Path.{refl}
use Rattle.std.proofs.Common.{sym, ◌∙◌, append-nil, arith}
use Rattle.std.proofs.Math.Bool.{true, false, true≢false}
use Prim.Native.Nat.{ℕ, zero, suc, ◌+◌, ◌≤◌}
use Rattle.std.proofs.lemmas.List.{replicate-append-replicate}
use Rattle.plan.specs.declared.Plan.{Plan}
use Rattle.machine.specs.Instant.{next_tick_of, instant}
use Rattle.machine.specs.Status.{status_of, running_paused}
use Rattle.machine.specs.Runs.{after_run, events_of_run}
use Rattle.machine.proofs.Laws.SoundClauses.{SoundRunning}
use Rattle.machine.proofs.Laws.Runs.{after_by, after_by_lem, events_by_lem, after_append, events-append, run-stopped, instant-clock}
use Rattle.machine.proofs.Laws.Soundness.{tick_after, instant-sound}
use Rattle.machine.proofs.Laws.Status.{is_paused_lem, tick-horizon}
use Rattle.machine.specs.declared.Running.{Running}
use Rattle.machine.specs.declared.Engine.{Engine}
use Rattle.machine.specs.declared.Status.TheVariants.{Paused}

module _ (p : Plan) (engine : Engine) where
  -- ---- a budget in two parts
  pub after_parts : (a b : ℕ) (r : Running) → after_run p engine (a + b) r ≡ after_run p engine b (after_run p engine a r)
  after_parts a b r =
      rw (after_by_lem p engine (a + b) r, after_by_lem p engine a r, after_by_lem p engine b (after_by p (replicate a engine) r), ← replicate-append-replicate a b engine)
      (after_append p (replicate a engine) (replicate b engine) r)

  pub events-parts : (a b : ℕ) (r : Running) → events_of_run p engine (a + b) r ≡ events_of_run p engine a r ++ events_of_run p engine b (after_run p engine a r)
  events-parts a b r =
      rw (
        events_by_lem p engine (a + b) r,
        events_by_lem p engine a r,
        after_by_lem p engine a r,
        events_by_lem p engine b (after_by p (replicate a engine) r),
        ← replicate-append-replicate a b engine,
      )
      (events-append p (replicate a engine) (replicate b engine) r)

  -- ---- the budget that is enough: each instant moves the clock on, and none is behind the horizon
  pub stops : (b : ℕ) (r : Running) → SoundRunning p r → p.horizon ≤ b + r.clocks.clock → status_of p (after_run p engine b r) ≡ Paused → ⊥
  unfolding after_run
  stops zero r ok h e =
      let l : next_tick_of p r ≤ p.horizon = tick-horizon p r (is_paused_lem p r e) in omega (arith, tick_after p r ok)
  stops (suc b) r ok h e = go (running_paused p r) refl e (λ t. stops b (instant p engine r) (instant-sound p r ok t engine) (omega (arith, instant-clock p engine r ok)))
    where
      go : (c : Bool) → running_paused p r ≡ c → status_of p (cond c (after_run p engine b (instant p engine r)) r) ≡ Paused
          → (running_paused p r ≡ true → status_of p (after_run p engine b (instant p engine r)) ≡ Paused → ⊥) → ⊥
      go true t s ih = ih t s
      go false t s ih = true≢false (sym (is_paused_lem p r s) ∙ t)

  -- a larger budget ends at the same place, with the same events
  module _ (b k : ℕ) (r : Running) (ok : SoundRunning p r) (h : p.horizon ≤ b + r.clocks.clock) where
    pub after_enough : after_run p engine (b + k) r ≡ after_run p engine b r
    after_enough = after_parts b k r ∙ (run-stopped p engine k (after_run p engine b r) (stops b r ok h)).0

    pub events-enough : events_of_run p engine (b + k) r ≡ events_of_run p engine b r
    events-enough =
        events-parts b k r ∙ rw (run-stopped p engine k (after_run p engine b r) (stops b r ok h)).1 (append-nil (events_of_run p engine b r))
