-- Laws: an instant with any plan that differs only in what is not read. Assumes nothing.
use Rattle.std.specs.Prelude.{◌≡◌, refl, List, ℕ, ℤ, length}
use Rattle.bitset.specs.Mask.{has, each}
use Rattle.plan.specs.declared.Plan.{Plan}
use Rattle.machine.specs.declared.Motion.{Motion}
use Rattle.machine.specs.declared.Running.{Running}
use Rattle.machine.specs.declared.Engine.{Engine}
use Rattle.rates.specs.Links.{range_rate}
use Rattle.moves.specs.Motion.{position_then, slope_from, due_from, after_move, AllMovable}
use Rattle.instant.specs.Instants.{Unread, with_unread, InstantReady, InstantTaken, SomePlanReady, EveryPlanTaken}

-- ---- a move reads none of it
module _ (p : Plan) (unread : Unread) (ranges : List ℕ) (t : ℕ) (values : List ℤ) (moved : ℕ) (m : Motion) where
  pub movable_read : AllMovable (with_unread p unread) ranges t values moved m → AllMovable p ranges t values moved m
  unfolding position_then slope_from due_from range_rate
  movable_read ready i h =
      let one = ready i h in
      let rated = one.rated in
      record {
        used = one.used;
        rated = record { order = rated.order; few = rated.few; known = rated.known; small = rated.small; sized = rated.sized };
        position = one.position;
        level = one.level;
        due = one.due;
      }

  pub moved_read : {m' : Motion} → m' ≡ each (after_move p ranges t values) (has moved) 32 m
      → m' ≡ each (after_move (with_unread p unread) ranges t values) (has moved) 32 m
  unfolding after_move position_then slope_from due_from range_rate
  moved_read e = e

-- ---- a plan's own, which nothing else takes part in
abbrev pub unread_of : Plan → Unread
unread_of p = record { horizon = p.horizon; starts = p.integrators.starts; firsts = p.inputs.firsts; targets = p.links.targets }

pub unread_put : (p : Plan) (unread : Unread) → unread_of (with_unread p unread) ≡ unread
unread_put p unread = refl

pub put_twice : (p : Plan) (a b : Unread) → with_unread (with_unread p a) b ≡ with_unread p b
put_twice p a b = refl

pub own_put : (p : Plan) → with_unread p (unread_of p) ≡ p
own_put p = refl

module _ (p : Plan) {ranges reach : List ℕ} {t due : ℕ} {r : Running} {values : List ℤ} {at : ℕ} where
  pub own_ready : {size : ℕ} → InstantReady p ranges reach t due r values at size → SomePlanReady (with_unread p) ranges reach t due r values at size
  own_ready ready = record { unread = unread_of p; ready = ready }

  pub own_taken : {engine : Engine} {buffer : List ℕ} {r' : Running} {values' : List ℤ} {buffer' : List ℕ} {end : ℕ}
      → EveryPlanTaken engine (with_unread p) ranges reach t due r values buffer at r' values' buffer' end
      → InstantReady p ranges reach t due r values at (length buffer) → InstantTaken engine p r buffer at r' values' buffer' end
  own_taken every ready = every.taken (unread_of p) ready
