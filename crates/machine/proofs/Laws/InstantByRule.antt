-- Laws: one instant, of any outcome that keeps what is neither woken nor reached (`Keeps`), whoever moves besides those: slopes, due ticks
-- and positions after it are those of the outcome, and do not depend on who moved. Assumes nothing.
use Rattle.std.specs.Prelude.{◌≡◌, Bool, ℕ, ◌-◌, ◌≤◌, ◌<◌, ◌+ℤ◌, ◌*ℤ◌}
use Rattle.std.proofs.Math.Path.{refl, sym}
use Rattle.std.proofs.Common.{ap, ◌∙◌}
use Rattle.std.proofs.Math.Bool.{true, false, cond}
use native.Mathlib.Omega.{arith}
use Rattle.std.proofs.Math.IntN.{pos, +ℤ_idr, *ℤ-zero}
use Rattle.plan.specs.Lists.{nat_at, int_at, row}
use Rattle.plan.proofs.Laws.Rows.{row_at, row_ext}
use Rattle.plan.proofs.Laws.CountLimits.{CountLimits}
use Rattle.plan.specs.declared.Plan.{Plan}
use Rattle.machine.specs.Due.{due_of}
use Rattle.machine.specs.Instant.{position_at, Outcome, due_then, figures_after}
use Rattle.machine.proofs.Laws.BetweenLevels.{due_by_output}
use Rattle.machine.proofs.Laws.SoundClauses.{SoundRunning, limits_of}
use Rattle.machine.proofs.Laws.Due.{due-later}
use Rattle.machine.proofs.Laws.InstantFigures.{x_at, l_at}
use Rattle.machine.proofs.Laws.Positions.{inside, due_is, moved_before}
use Rattle.machine.specs.declared.Running.{Running}

-- Who is not woken keeps its output, is at its position x+s×(t−l), and is due later; who is not touched is not woken, and keeps its slope.
pub record Keeps (p : Plan) (r : Running) (t : ℕ) (o : Outcome) (awake touched : ℕ → Bool) : Type 0 where
  pub output : (i : ℕ) → i < p.counts.n → awake i ≡ false → int_at o.held.q i ≡ int_at r.q i
  pub place : (i : ℕ) → i < p.counts.n → awake i ≡ false → o.x i ≡ position_at r t i
  pub later : (i : ℕ) → i < p.counts.n → awake i ≡ false → t < nat_at r.d i
  pub not_woken : (i : ℕ) → i < p.counts.n → touched i ≡ false → awake i ≡ false
  pub slope : (i : ℕ) → i < p.counts.n → touched i ≡ false → o.s i ≡ int_at r.s i

-- those that move are all that are touched, and perhaps others
abbrev pub Covers : (p : Plan) (touched moved : ℕ → Bool) → Type 0
Covers p touched moved = (i : ℕ) → i < p.counts.n → moved i ≡ false → touched i ≡ false

-- ---- whoever moves
module _ (p : Plan) (r : Running) (t : ℕ) (o : Outcome) {awake touched : ℕ → Bool} (keeps : Keeps p r t o awake touched)
    (moved : ℕ → Bool) (covers : Covers p touched moved) where
  -- one that does not move has its slope stored
  stored-slope : (i : ℕ) → i < p.counts.n → moved i ≡ false → o.s i ≡ int_at r.s i
  stored-slope i h e = keeps.slope i h (covers i h e)

  -- with any update count after it
  module _ (w : ℕ) where
    pub slopes_then : (figures_after p r t o moved w).s ≡ row (pos 0) 32 p.counts.n o.s
    unfolding figures_after
    slopes_then = row_ext (pos 0) 32 p.counts.n _ _ (λ i h. go i h (moved i) refl)
      where
        go : (i : ℕ) → i < p.counts.n → (b : Bool) → moved i ≡ b → cond b (o.s i) (int_at r.s i) ≡ o.s i
        go i h true e = refl
        go i h false e = sym (stored-slope i h e)

    module _ (limits : CountLimits p) where
      pub slope_at : (i : ℕ) → i < p.counts.n → int_at (figures_after p r t o moved w).s i ≡ o.s i
      slope_at i h = rw slopes_then (row_at (pos 0) 32 p.counts.n _ i limits.n h)

      -- the position at the instant's tick does not depend on who moved
      pub place_then : (i : ℕ) → i < p.counts.n → position_at (figures_after p r t o moved w) t i ≡ o.x i
      unfolding position_at
      place_then i h = rw (x_at p limits r t o moved w i h, l_at p limits r t o moved w i h, slope_at i h) (go (moved i) refl)
        where
          go : (b : Bool) → moved i ≡ b → cond b (o.x i) (int_at r.x i) +ℤ o.s i *ℤ pos (t - cond b t (nat_at r.l i)) ≡ o.x i
          go true e =
              let z : t - t ≡ 0 = omega arith in
              rw z (ap (λ y. o.x i +ℤ y) (*ℤ-zero (o.s i)) ∙ +ℤ_idr (o.x i))
          go false e = rw (stored-slope i h e) (sym (keeps.place i h (keeps.not_woken i h (covers i h e))))

-- ---- due ticks, for a sound state and a tick from its clock on
module _ (p : Plan) (r : Running) (ok : SoundRunning p r) (t : ℕ) (since : r.clocks.clock ≤ t) where
  -- that of one that is due later stays what it is
  due_same : (i : ℕ) → i < p.counts.n → t < nat_at r.d i → due_of p r.q i t (position_at r t i) (int_at r.s i) ≡ nat_at r.d i
  unfolding due_of position_at
  due_same i h e =
      let old = inside p r ok i h in
      let before = rw (due_is p r ok i h) at e in
      due-later (nat_at r.l i) t _ _ _ _ old.above old.below (moved_before p r ok i h t since) before ∙ sym (due_is p r ok i h)

  module _ (o : Outcome) {awake touched : ℕ → Bool} (keeps : Keeps p r t o awake touched) where
    due_kept : (i : ℕ) → i < p.counts.n → touched i ≡ false → due_then p t o i ≡ nat_at r.d i
    unfolding due_then
    due_kept i h f =
        let e = keeps.not_woken i h f in
        rw (keeps.place i h e, keeps.slope i h f) (due_by_output p r.q i o.held.q (keeps.output i h e) _ _ _ ∙ due_same i h (keeps.later i h e))

    module _ (moved : ℕ → Bool) (covers : Covers p touched moved) where
      -- the due tick is by rule from where and when the integrator was moved last
      pub due_by_rule : (i : ℕ) → i < p.counts.n
          → due_then p t o i ≡ due_of p o.held.q i (cond (moved i) t (nat_at r.l i)) (cond (moved i) (o.x i) (int_at r.x i)) (o.s i)
      unfolding due_then
      due_by_rule i h = go (moved i) refl
        where
          go : (b : Bool) → moved i ≡ b
              → due_then p t o i ≡ due_of p o.held.q i (cond b t (nat_at r.l i)) (cond b (o.x i) (int_at r.x i)) (o.s i)
          go true e = refl
          go false e =
              due_kept i h (covers i h e) ∙ (ok.integrators i h).due
              ∙ rw (keeps.slope i h (covers i h e)) (sym (due_by_output p r.q i o.held.q (keeps.output i h (keeps.not_woken i h (covers i h e))) _ _ _))

      -- with any update count after it
      module _ (w : ℕ) where
        pub dues_then : (figures_after p r t o moved w).d ≡ row 0 32 p.counts.n (due_then p t o)
        unfolding figures_after
        dues_then = row_ext 0 32 p.counts.n _ _ (λ i h. go i h (moved i) refl)
          where
            go : (i : ℕ) → i < p.counts.n → (b : Bool) → moved i ≡ b → cond b (due_then p t o i) (nat_at r.d i) ≡ due_then p t o i
            go i h true e = refl
            go i h false e = sym (due_kept i h (covers i h e))

        pub due_at : (i : ℕ) → i < p.counts.n → nat_at (figures_after p r t o moved w).d i ≡ due_then p t o i
        due_at i h = rw dues_then (row_at 0 32 p.counts.n _ i (limits_of ok).n h)
