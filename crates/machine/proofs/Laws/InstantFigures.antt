-- Laws: outputs, positions and the figures of each integrator after an instant, entry by entry, whoever moves. Assumes nothing.
use Rattle.std.specs.Prelude.{◌≡◌, Bool, List, ℕ, ◌<◌, ℤ, pos}
use Rattle.std.proofs.Math.Path.{refl}
use Rattle.std.proofs.Common.{◌∙◌}
use Rattle.std.proofs.Math.Bool.{true, false, cond}
use Rattle.plan.specs.Lists.{nat_at, int_at}
use Rattle.plan.proofs.Laws.Rows.{row_at}
use Rattle.plan.proofs.Laws.CountLimits.{CountLimits}
use Rattle.plan.specs.declared.Plan.{Plan}
use Rattle.machine.specs.Instant.{Outcome, outputs_by, place_by, due_then, figures_after}
use Rattle.machine.specs.declared.Running.{Running}

-- ---- by who is woken, where each integrator is put, and the outputs before
module _ (p : Plan) (limits : CountLimits p) (awake : ℕ → Bool) (place : ℕ → ℤ) (q : List ℤ) (i : ℕ) (h : i < p.counts.n) where
  pub outputs_at : int_at (outputs_by p awake place q) i ≡ cond (awake i) (place i) (int_at q i)
  unfolding outputs_by
  outputs_at = row_at (pos 0) 32 p.counts.n _ i limits.n h

  -- those that are not woken keep their outputs
  pub output_kept : awake i ≡ false → int_at (outputs_by p awake place q) i ≡ int_at q i
  output_kept e = outputs_at ∙ rw e

  -- "x becomes x+s×(t−l) .. A due integrator gets x = q", which is the same
  pub x_then : place_by awake (outputs_by p awake place q) place i ≡ place i
  unfolding place_by
  x_then = go (awake i) outputs_at
    where
      go : (b : Bool) → int_at (outputs_by p awake place q) i ≡ cond b (place i) (int_at q i)
          → cond b (int_at (outputs_by p awake place q) i) (place i) ≡ place i
      go true e = e
      go false e = refl

-- ---- by who moves, for any outcome at tick t and any update count w
module _ (p : Plan) (limits : CountLimits p) (r : Running) (t : ℕ) (o : Outcome) (moved : ℕ → Bool) (w i : ℕ) (h : i < p.counts.n) where
  pub x_at : int_at (figures_after p r t o moved w).x i ≡ cond (moved i) (o.x i) (int_at r.x i)
  unfolding figures_after
  x_at = row_at (pos 0) 32 p.counts.n _ i limits.n h

  pub l_at : nat_at (figures_after p r t o moved w).l i ≡ cond (moved i) t (nat_at r.l i)
  unfolding figures_after
  l_at = row_at 0 32 p.counts.n _ i limits.n h

  pub s_at : int_at (figures_after p r t o moved w).s i ≡ cond (moved i) (o.s i) (int_at r.s i)
  unfolding figures_after
  s_at = row_at (pos 0) 32 p.counts.n _ i limits.n h

  pub d_at : nat_at (figures_after p r t o moved w).d i ≡ cond (moved i) (due_then p t o i) (nat_at r.d i)
  unfolding figures_after
  d_at = row_at 0 32 p.counts.n _ i limits.n h
