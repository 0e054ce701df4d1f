-- Laws: each instant of a run from Start whose instants are taken by the engines of a list: the state after it, its bytes, how many it
-- moves, and the update count. Assumes nothing.
use Rattle.std.specs.Prelude.{◌≡◌, Bool, true, false, cond, ltb, length, get_or, take, drop}
use Rattle.std.proofs.Math.Path.{refl, ap}
use Rattle.std.proofs.Common.{sym, ◌∙◌, take-append-drop, length-take-le, take-suc, take_all, ltb-true, ltb-false}
use mathlib.Core.List.{List, [], ◌∷◌, ◌++◌, append-nil}
use Prim.Native.Nat.{ℕ, zero, suc, ◌+◌, ◌-◌, ◌*◌, ◌≤◌, ◌<◌}
use native.Mathlib.Omega.{arith}
use Rattle.bitset.specs.Counts.{count_of}
use Rattle.plan.specs.declared.Plan.{Plan}
use Rattle.machine.specs.Start.{start_of}
use Rattle.machine.specs.Instant.{instant, events_of}
use Rattle.machine.specs.Status.{is_paused, running_paused}
use Rattle.machine.specs.Plain.{Plain, plain_start, plain_status, plain_after, lazy_count}
use Rattle.machine.specs.Updates.{growth, growth_up_to, is_eager, eager_instants, lazy_growth, moved_now}
use Rattle.machine.proofs.Laws.SoundClauses.{SoundRunning}
use Rattle.machine.proofs.Laws.Status.{paused_true}
use Rattle.machine.proofs.Laws.Agreement.{Agrees, same_status, start_agrees}
use Rattle.machine.proofs.Laws.Growth.{instant-updates, instant-moved}
use Rattle.machine.proofs.Laws.PlainRuns.{takes_most, paused_before, taken_so_far, stopped_behind}
use Rattle.machine.proofs.Laws.Runs.{after_by, events_by, after_stopped, after_append, events-append, run_sound, Together, together}
use Rattle.plan.proofs.Laws.CountLimits.{count-limits}
use Rattle.machine.specs.declared.Running.{Running}
use Rattle.machine.specs.declared.Engine.{Engine}
use Rattle.machine.specs.declared.Engine.TheVariants.{Lazy, Eager}

-- the growth is by the engines of the instants that it counts
pub growth_mono : (p : Plan) (f g : ℕ → Engine) (k : ℕ)
    → ((i : ℕ) → i < k → (m : Plain) → growth p (f (i + 1)) m ≤ growth p (g (i + 1)) m) → growth_up_to p f k ≤ growth_up_to p g k
unfolding growth_up_to
growth_mono p f g zero h = omega arith
growth_mono p f g (suc k) h = omega (arith, growth_mono p f g k (λ i l. h i (omega arith)), h k (omega arith) (plain_after p k))

pub growth_ext : (p : Plan) (f g : ℕ → Engine) (k : ℕ) → ((i : ℕ) → i < k → f (i + 1) ≡ g (i + 1)) → growth_up_to p f k ≡ growth_up_to p g k
unfolding growth_up_to
growth_ext p f g zero h = refl
growth_ext p f g (suc k) h = rw (growth_ext p f g k (λ i l. h i (omega arith)), h k (omega arith))

-- by the eager engine alone
pub growth_eager : (p : Plan) (k : ℕ) → growth_up_to p (λ i. Eager) k ≡ p.counts.n * k
unfolding growth_up_to growth
growth_eager p zero = omega arith
growth_eager p (suc k) = omega (arith, growth_eager p k)

-- n times the instants that eager calls took, and the number due or reached over those that lazy calls took
pub growth-parts : (p : Plan) (engine : ℕ → Engine) (k : ℕ) → growth_up_to p engine k ≡ p.counts.n * eager_instants engine k + lazy_growth p engine k
unfolding growth_up_to growth eager_instants lazy_growth is_eager count_of
growth-parts p engine zero = omega arith
growth-parts p engine (suc k) = go (engine (k + 1)) (eager_instants engine k) (lazy_growth p engine k) (growth-parts p engine k)
  where
    go : (e : Engine) (eager moves : ℕ) → growth_up_to p engine k ≡ p.counts.n * eager + moves
        → growth_up_to p engine k + growth p e (plain_after p k)
        ≡ p.counts.n * cond (is_eager e) (suc eager) eager + (moves + cond (is_eager e) 0 (lazy_count p (plain_after p k)))
    go Lazy eager moves ih = omega arith
    go Eager eager moves ih = omega arith

-- the engine of instant i, counted from 1, and the running figures after k instants
unfoldable pub engine_of : List Engine → ℕ → Engine
engine_of engines i = get_or engines (i - 1) Lazy

unfoldable pub state_at : Plan → List Engine → ℕ → Running
state_at p engines k = after_by p (take k engines) (start_of p)

module _ (p : Plan) (ok : SoundRunning p (start_of p)) (engines : List Engine) where
  pub run_together : Together p engines (start_of p) (plain_start p)
  run_together = together p engines (start_of p) (plain_start p) ok (start_agrees p (count-limits p ok.plan.counts).n)

  -- it agrees with the plain machine at every instant
  state_agrees : (k : ℕ) → k ≤ length engines → Agrees p (state_at p engines k) (plain_after p k)
  unfolding state_at plain_after
  state_agrees k h =
      rw (length-take-le k engines h) at
      (together p (take k engines) (start_of p) (plain_start p) ok (start_agrees p (count-limits p ok.plan.counts).n)).agrees

  state-sound : (k : ℕ) → SoundRunning p (state_at p engines k)
  unfolding state_at
  state-sound k = run_sound p (take k engines) (start_of p) ok

  -- paused or not as the plain machine is
  paused_as : (k : ℕ) → k ≤ length engines → running_paused p (state_at p engines k) ≡ is_paused (plain_status p (plain_after p k))
  unfolding running_paused
  paused_as k h = ap is_paused (same_status p (state_at p engines k) (state-sound k) (plain_after p k) (state_agrees k h).forward)

  -- ---- instant k + 1, where it is taken
  module _ (k : ℕ) (taken : k < (plain_after p (length engines)).held.instants) where
    inside : k < length engines
    inside = omega (arith, takes_most p (length engines))

    is_paused_lem : running_paused p (state_at p engines k) ≡ true
    is_paused_lem = paused_as k (omega (arith, inside)) ∙ paused_true (plain_status p (plain_after p k)) (paused_before p k (length engines) taken)

    one_more : take (k + 1) engines ≡ take k engines ++ (engine_of engines (k + 1) ∷ [])
    unfolding engine_of
    one_more =
        let next : k + 1 ≡ suc k = omega arith in let same : suc k - 1 ≡ k = omega arith in
        rw (next, same) (take-suc engines k Lazy inside)

    pub state-next : state_at p engines (k + 1) ≡ instant p (engine_of engines (k + 1)) (state_at p engines k)
    unfolding state_at after_by
    state-next = rw one_more (after_append p (take k engines) (engine_of engines (k + 1) ∷ []) (start_of p) ∙ rw is_paused_lem)

    pub events-next : events_by p (take (k + 1) engines) (start_of p) ≡ events_by p (take k engines) (start_of p) ++ events_of p (state_at p engines k)
    unfolding state_at events_by
    events-next =
        rw one_more
        (events-append p (take k engines) (engine_of engines (k + 1) ∷ []) (start_of p)
        ∙ rw (is_paused_lem, append-nil (events_of p (after_by p (take k engines) (start_of p)))))

    pub moved-next : moved_now p (state_at p engines (k + 1)) ≡ growth p (engine_of engines (k + 1)) (plain_after p k)
    moved-next =
        let h : k ≤ length engines = omega (arith, inside) in
        rw state-next (instant-moved p (state_at p engines k) (plain_after p k) (state_agrees k h).forward (engine_of engines (k + 1)) (state-sound k))

    updates-next : (state_at p engines (k + 1)).clocks.updates ≡ (state_at p engines k).clocks.updates + growth p (engine_of engines (k + 1)) (plain_after p k)
    updates-next =
        let h : k ≤ length engines = omega (arith, inside) in
        rw state-next (instant-updates p (state_at p engines k) (plain_after p k) (state_agrees k h).forward (engine_of engines (k + 1)))

  -- ---- up to instant k
  pub instants_at : (k : ℕ) → k ≤ (plain_after p (length engines)).held.instants → (state_at p engines k).clocks.instants ≡ k
  instants_at k h =
      ap (λ h. h.instants) (state_agrees k (omega (arith, takes_most p (length engines)))).forward.held ∙ taken_so_far p k (length engines) h

  pub updates_at : (k : ℕ) → k ≤ (plain_after p (length engines)).held.instants → (state_at p engines k).clocks.updates ≡ growth_up_to p (engine_of engines) k
  unfolding state_at after_by growth_up_to start_of
  updates_at zero h = refl
  updates_at (suc k) h =
      let next : suc k ≡ k + 1 = omega arith in
      rw next (updates-next k h ∙ ap (λ (n : ℕ). n + growth p (engine_of engines (k + 1)) (plain_after p k)) (updates_at k (omega arith)))

  -- the whole run is over after the instants that it takes
  pub state-end : after_by p engines (start_of p) ≡ state_at p engines (plain_after p (length engines)).held.instants
  unfolding state_at
  state-end = go (ltb k (length engines)) refl
    where
      k : ℕ
      k = (plain_after p (length engines)).held.instants

      go : (b : Bool) → ltb k (length engines) ≡ b → after_by p engines (start_of p) ≡ after_by p (take k engines) (start_of p)
      go true e =
          let h = ltb-true k (length engines) e in
          let stop = paused_as k (omega arith) ∙ stopped_behind p (length engines) h in
          ap (λ es. after_by p es (start_of p)) (sym (take-append-drop k engines))
          ∙ after_append p (take k engines) (drop k engines) (start_of p)
          ∙ after_stopped p (drop k engines) (state_at p engines k) stop
      go false e = ap (λ es. after_by p es (start_of p)) (sym (take_all k engines (ltb-false k (length engines) e)))

  pub updates-end : (after_by p engines (start_of p)).clocks.updates ≡ growth_up_to p (engine_of engines) (plain_after p (length engines)).held.instants
  updates-end = ap (λ r. r.clocks.updates) state-end ∙ updates_at (plain_after p (length engines)).held.instants (omega arith)
