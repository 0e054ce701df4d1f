-- Laws: two instants that cannot be told apart, with the same due integrators, tick, places and figures held, however these were found: in
-- both the same sources change and the same integrators are touched, and they have one status and one outcome. Each law asks for what it
-- reads. Assumes nothing.
use Rattle.std.specs.Prelude.{◌≡◌, refl, true, false, cond, ◌&&◌, ◌||◌, ℕ, ◌+◌, ◌-◌, ◌<◌, ℤ, pos}
use Rattle.std.proofs.Math.Path.{ap, ap₂}
use Rattle.std.proofs.Common.{◌∙◌, ltb-true}
use Rattle.std.proofs.Math.Bool.{Bool}
use Rattle.std.proofs.Math.Dec.{ltb}
use Rattle.plan.proofs.Laws.Rows.{row_ext}
use Rattle.plan.specs.declared.Plan.{Plan}
use Rattle.machine.specs.Held.{Held, slope_of, held_then}
use Rattle.machine.specs.Reach.{is_commanded, woken, gives, placed, changes_by, reached, touched}
use Rattle.machine.specs.Instant.{Outcome, outputs_by, place_by, outcome_by}
use Rattle.machine.specs.Status.{status_at}
use Rattle.machine.proofs.Laws.Status.{status_same}
use Rattle.machine.proofs.Laws.Woken.{woken_same, gives_same, placed_same}

-- ---- outcomes that cannot be told apart
pub record Alike (p : Plan) (o o' : Outcome) : Type 0 where
  pub held : o.held ≡ o'.held
  pub x : (i : ℕ) → i < p.counts.n → o.x i ≡ o'.x i
  pub s : (i : ℕ) → i < p.counts.n → o.s i ≡ o'.s i

-- ---- by who is due
module _ (p : Plan) {due due' : ℕ → Bool} (same_due : (i : ℕ) → i < p.counts.n → due i ≡ due' i) where
  woken-alike : (i : ℕ) → i < p.counts.n → woken due i ≡ woken due' i
  woken-alike i l = woken_same due due' i (same_due i l)

  -- the outputs after, which do not depend on the tick
  outputs_alike : {place place' : ℕ → ℤ} → ((i : ℕ) → i < p.counts.n → place i ≡ place' i) → {h h' : Held} → h ≡ h'
      → outputs_by p (woken due) (placed place) h.q ≡ outputs_by p (woken due') (placed place') h'.q
  unfolding outputs_by
  outputs_alike {place} {place'} same_place same-held =
      row_ext (pos 0) 32 p.counts.n _ _ (λ i l. rw (woken-alike i l, placed_same place place' i (same_place i l), same-held))

  -- ---- and by the tick
  module _ {t t' : ℕ} (same-t : t ≡ t') where
    -- the sources that change
    pub changes-alike : (i : ℕ) → changes_by p t (woken due) i ≡ changes_by p t' (woken due') i
    unfolding changes_by
    changes-alike i = rw same-t (go (ltb i p.counts.n) refl)
      where
        other : Bool
        other = ltb i (p.counts.n + p.counts.m) && is_commanded p t' (i - p.counts.n)

        go : (b : Bool) → ltb i p.counts.n ≡ b → cond b (woken due i) other ≡ cond b (woken due' i) other
        go true e = woken-alike i (ltb-true i p.counts.n e)
        go false e = refl

    pub touched-alike : (i : ℕ) → i < p.counts.n → touched p t due i ≡ touched p t' due' i
    unfolding touched
    touched-alike i l = ap₂ (λ a b. a || b) (woken-alike i l) (λ k. reached p (λ j. changes-alike j k) i)

    -- ---- and by the position of each integrator there
    module _ {place place' : ℕ → ℤ} (same_place : (i : ℕ) → i < p.counts.n → place i ≡ place' i) where
      pub status-alike : status_at p t (gives due) place ≡ status_at p t' (gives due') place'
      status-alike =
          status_same p t _ _ _ _ (λ i l. gives_same due due' i (same_due i l)) same_place ∙ ap (λ t. status_at p t (gives due') place') same-t

      -- ---- and by what was held before
      module _ {h h' : Held} (same-held : h ≡ h') where
        pub held-alike : (outcome_by p t due place h).held ≡ (outcome_by p t' due' place' h').held
        held-alike = λ i. held_then p (same-t i) (same-held i) (outputs_alike same_place same-held i)

        pub outcomes_alike : Alike p (outcome_by p t due place h) (outcome_by p t' due' place' h')
        unfolding place_by
        outcomes_alike =
            record {
              held = held-alike;
              x = λ i l. rw (outputs_alike same_place same-held, woken-alike i l, placed_same place place' i (same_place i l));
              s = λ i l. ap (λ h. slope_of p h i) held-alike;
            }
