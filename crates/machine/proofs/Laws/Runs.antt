-- Laws: runs, instant by instant: a list names the engine of each. Whatever the list, the run leaves a sound state that agrees with the
-- plain machine run for as many instants, with the same events. Assumes nothing.
use Rattle.std.specs.Prelude.{◌≡◌, Bool, true, false, cond, length, replicate}
use Rattle.std.proofs.Math.Path.{refl, ap}
use Rattle.std.proofs.Common.{sym, ap₂, ◌∙◌, true≢false}
use mathlib.Core.List.{List, [], ◌∷◌, ◌++◌, append_assoc}
use Prim.Native.Nat.{ℕ, zero, suc, ◌+◌, ◌≤◌, ◌<◌}
use native.Mathlib.Omega.{arith}
use Rattle.plan.specs.declared.Plan.{Plan}
use Rattle.machine.specs.Instant.{figures_after, instant, events_of}
use Rattle.machine.specs.Status.{is_paused, status_of, running_paused}
use Rattle.machine.specs.Runs.{after_run, events_of_run}
use Rattle.machine.specs.Plain.{Plain, plain_instant, plain_status, plain_from, plain_events_from}
use Rattle.machine.proofs.Laws.SoundClauses.{SoundRunning}
use Rattle.machine.proofs.Laws.Status.{is_paused_lem, paused_false}
use Rattle.machine.proofs.Laws.Soundness.{tick_after, instant-sound}
use Rattle.machine.proofs.Laws.Agreement.{Agrees, same_status, same_events, agrees_then}
use Rattle.machine.specs.declared.Running.{Running}
use Rattle.machine.specs.declared.Engine.{Engine}
use Rattle.machine.specs.declared.Status.TheVariants.{Paused}

module _ (p : Plan) where
  unfoldable pub after_by : List Engine → Running → Running
  after_by [] r = r
  after_by (engine ∷ engines) r = cond (running_paused p r) (after_by engines (instant p engine r)) r

  unfoldable pub events_by : List Engine → Running → List ℕ
  events_by [] r = []
  events_by (engine ∷ engines) r = cond (running_paused p r) (events_of p r ++ events_by engines (instant p engine r)) []

  -- a run by one engine
  pub after_by_lem : (engine : Engine) (b : ℕ) (r : Running) → after_run p engine b r ≡ after_by (replicate b engine) r
  unfolding after_run after_by
  after_by_lem engine zero r = refl
  after_by_lem engine (suc b) r = rw (after_by_lem engine b (instant p engine r))

  pub events_by_lem : (engine : Engine) (b : ℕ) (r : Running) → events_of_run p engine b r ≡ events_by (replicate b engine) r
  unfolding events_of_run events_by
  events_by_lem engine zero r = refl
  events_by_lem engine (suc b) r = rw (events_by_lem engine b (instant p engine r))

  -- ---- a run goes on where one ended
  pub after_stopped : (engines : List Engine) (r : Running) → running_paused p r ≡ false → after_by engines r ≡ r
  unfolding after_by
  after_stopped [] r e = refl
  after_stopped (engine ∷ engines) r e = rw e

  events-stopped : (engines : List Engine) (r : Running) → running_paused p r ≡ false → events_by engines r ≡ []
  unfolding events_by
  events-stopped [] r e = refl
  events-stopped (engine ∷ engines) r e = rw e

  -- so a run by one engine stops where it is not paused, and else takes an instant and goes on
  pub run-stopped : (engine : Engine) (b : ℕ) (r : Running) → (status_of p r ≡ Paused → ⊥) → (after_run p engine b r ≡ r) × (events_of_run p engine b r ≡ [])
  unfolding running_paused
  run-stopped engine b r h =
      let e = paused_false (status_of p r) h in
      (after_by_lem engine b r ∙ after_stopped (replicate b engine) r e, events_by_lem engine b r ∙ events-stopped (replicate b engine) r e)

  pub run-taken : (engine : Engine) (b : ℕ) (r : Running) → status_of p r ≡ Paused
      → (after_run p engine (b + 1) r ≡ after_run p engine b (instant p engine r))
      × (events_of_run p engine (b + 1) r ≡ events_of p r ++ events_of_run p engine b (instant p engine r))
  unfolding after_run events_of_run
  run-taken engine b r h =
      let next : b + 1 ≡ suc b = omega arith in
      let e = is_paused_lem p r h in
      (rw (next, e), rw (next, e))

  pub after_append : (first then : List Engine) (r : Running) → after_by (first ++ then) r ≡ after_by then (after_by first r)
  unfolding after_by
  after_append [] then r = refl
  after_append (engine ∷ first) then r = go (running_paused p r) refl (after_append first then (instant p engine r))
    where
      next : Running
      next = instant p engine r

      go : (b : Bool) → running_paused p r ≡ b → after_by (first ++ then) next ≡ after_by then (after_by first next)
          → cond b (after_by (first ++ then) next) r ≡ after_by then (cond b (after_by first next) r)
      go true e ih = ih
      go false e ih = sym (after_stopped then r e)

  pub events-append : (first then : List Engine) (r : Running) → events_by (first ++ then) r ≡ events_by first r ++ events_by then (after_by first r)
  unfolding after_by events_by
  events-append [] then r = refl
  events-append (engine ∷ first) then r = go (running_paused p r) refl (events-append first then (instant p engine r))
    where
      next : Running
      next = instant p engine r

      go : (b : Bool) → running_paused p r ≡ b → events_by (first ++ then) next ≡ events_by first next ++ events_by then (after_by first next)
          → cond b (events_of p r ++ events_by (first ++ then) next) []
          ≡ cond b (events_of p r ++ events_by first next) [] ++ events_by then (cond b (after_by first next) r)
      go true e ih = rw ih (sym (append_assoc (events_of p r) (events_by first next) (events_by then (after_by first next))))
      go false e ih = sym (events-stopped then r e)

  -- ---- what the end of a run has from its beginning, where each instant hands it on
  along : (P : Running → Running → Type 0) → ((r : Running) → SoundRunning p r → P r r)
      → ((engine : Engine) (r end : Running) → SoundRunning p r → P (instant p engine r) end → P r end)
      → (engines : List Engine) (r : Running) → SoundRunning p r → P r (after_by engines r)
  unfolding after_by
  along P none one [] r ok = none r ok
  along P none one (engine ∷ engines) r ok =
      go (running_paused p r) refl (λ e. along P none one engines (instant p engine r) (instant-sound p r ok e engine))
    where
      next : Running
      next = instant p engine r

      go : (b : Bool) → running_paused p r ≡ b → (running_paused p r ≡ true → P next (after_by engines next)) → P r (cond b (after_by engines next) r)
      go true e ih = one engine r (after_by engines next) ok (ih e)
      go false e ih = none r ok

  -- a run leaves a sound state
  pub run_sound : (engines : List Engine) (r : Running) → SoundRunning p r → SoundRunning p (after_by engines r)
  run_sound = along (λ r end. SoundRunning p end) (λ r ok. ok) (λ engine r end ok ih. ih)

  -- ---- the clock goes on
  pub instant-clock : (engine : Engine) (r : Running) → SoundRunning p r → r.clocks.clock < (instant p engine r).clocks.clock
  unfolding instant figures_after
  instant-clock engine r ok = tick_after p r ok

  clock-least : (engines : List Engine) (r : Running) → SoundRunning p r → r.clocks.clock ≤ (after_by engines r).clocks.clock
  clock-least =
      along (λ r end. r.clocks.clock ≤ end.clocks.clock) (λ r ok. omega arith) (λ engine r end ok ih. omega (arith, instant-clock engine r ok))

  -- a run that is still paused has moved it
  pub clock-moves : (engine : Engine) (engines : List Engine) (r : Running) → SoundRunning p r
      → running_paused p (after_by (engine ∷ engines) r) ≡ true → r.clocks.clock < (after_by (engine ∷ engines) r).clocks.clock
  unfolding after_by
  clock-moves engine engines r ok = go (running_paused p r) refl
    where
      next : Running
      next = instant p engine r

      go : (b : Bool) → running_paused p r ≡ b → running_paused p (cond b (after_by engines next) r) ≡ true → r.clocks.clock < (cond b (after_by engines next) r).clocks.clock
      go true e t = omega (arith, instant-clock engine r ok, clock-least engines next (instant-sound p r ok e engine))
      go false e t = absurd (true≢false (sym t ∙ e))

  -- ---- together with the plain machine
  pub record Together (engines : List Engine) (r : Running) (m : Plain) : Type 0 where
    pub agrees : Agrees p (after_by engines r) (plain_from p (length engines) m)
    pub bytes : events_by engines r ≡ plain_events_from p (length engines) m

  pub together : (engines : List Engine) (r : Running) (m : Plain) → SoundRunning p r → Agrees p r m → Together engines r m
  unfolding after_by events_by plain_from plain_events_from running_paused
  together [] r m ok a = record { agrees = a; bytes = refl }
  together (engine ∷ engines) r m ok a =
      go (running_paused p r) refl
      (λ e. together engines (instant p engine r) (plain_instant p m) (instant-sound p r ok e engine) (agrees_then p r ok m a.forward engine))
    where
      same : running_paused p r ≡ is_paused (plain_status p m)
      same = ap is_paused (same_status p r ok m a.forward)

      go : (b : Bool) → running_paused p r ≡ b → (running_paused p r ≡ true → Together engines (instant p engine r) (plain_instant p m))
          → Together (engine ∷ engines) r m
      go true e ih =
          let t = ih e in
          let f : is_paused (plain_status p m) ≡ true = sym same ∙ e in
          record { agrees = rw (e, f) t.agrees; bytes = rw (e, f) (ap₂ (λ xs ys. xs ++ ys) (same_events p r ok m a.forward) t.bytes) }
      go false e ih =
          let f : is_paused (plain_status p m) ≡ false = sym same ∙ e in
          record { agrees = rw (e, f) a; bytes = rw (e, f) }
