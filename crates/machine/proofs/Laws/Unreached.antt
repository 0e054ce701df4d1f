-- Laws: what an instant does not change: the value of a source that depends on no change, the rate of an integrator that is not reached, and
-- the slope of one that is not touched. Assumes nothing.
use Rattle.std.specs.Prelude.{◌≡◌, Bool, not, ◌&&◌, ◌||◌, List, ℤ, pos, ◌+ℤ◌, ◌*ℤ◌, eqb}
use Rattle.std.proofs.Math.Path.{refl, ap, ap₂}
use Rattle.std.proofs.Math.Bool.{true, false, cond}
use Prim.Native.Nat.{ℕ, zero, suc, ◌+◌, ◌-◌}
use Rattle.std.proofs.Common.{arith}
use Rattle.std.proofs.Math.Dec.{ltb}
use borrow.Author.Tests.{ltb-true, ltb-false, eqb-true}
use Rattle.integers.specs.Division.{floor65536}
use Rattle.plan.specs.Lists.{nat_at, int_at, some}
use Rattle.plan.proofs.Laws.Searches.{or-false}
use Rattle.plan.proofs.Laws.CountLimits.{CountLimits}
use Rattle.plan.specs.declared.Plan.{Plan}
use Rattle.machine.specs.Values.{node_value, value_with, value_of, sum_over, rate_of}
use Rattle.machine.specs.Held.{Held, slope_of}
use Rattle.machine.specs.Reach.{is_commanded, woken, placed, changes_by, depends_with, link_reaches, reached, touched}
use Rattle.machine.specs.Instant.{outcome_by}
use Rattle.machine.proofs.Laws.Inputs.{input_kept_lem}
use Rattle.machine.proofs.Laws.InstantFigures.{output_kept}

-- each of two
choice_kept : {x x₀ y y₀ : ℤ} {onX onY : Bool} (b : Bool) → (onX ≡ false → x ≡ x₀) → (onY ≡ false → y ≡ y₀)
    → cond b onX onY ≡ false → cond b x y ≡ cond b x₀ y₀
choice_kept true f g e = f e
choice_kept false f g e = g e

-- a node whose operands keep their values where it uses them
node_kept_lem : (kind : ℕ) (lo hi : ℤ) {a a₀ b b₀ : ℤ} (onA onB : Bool) → (onA ≡ false → a ≡ a₀) → (onB ≡ false → b ≡ b₀)
    → (onA || (not (eqb kind 2) && onB)) ≡ false → node_value kind a b lo hi ≡ node_value kind a₀ b₀ lo hi
unfolding node_value
node_kept_lem kind lo hi {a} {a₀} {b} {b₀} onA onB f g e = go (eqb kind 2) refl both.1
  where
    both : (onA ≡ false) × ((not (eqb kind 2) && onB) ≡ false)
    both = or-false onA (not (eqb kind 2) && onB) e

    left : a ≡ a₀
    left = f both.0

    go : (c : Bool) → eqb kind 2 ≡ c → (not c && onB) ≡ false → node_value kind a b lo hi ≡ node_value kind a₀ b₀ lo hi
    go true c d = rw (eqb-true kind 2 c, left)
    go false c d = rw (left, g d)

-- ---- over any set of sources outside of which the values stay
module _ (p : Plan) (changed : ℕ → Bool) (q u q₀ u₀ : List ℤ)
    (same : (i : ℕ) → changed i ≡ false → value_with p q u zero i ≡ value_with p q₀ u₀ zero i) where
  -- once k nodes are worked out
  pub value_kept : (k i : ℕ) → depends_with p changed k i ≡ false → value_with p q u k i ≡ value_with p q₀ u₀ k i
  unfolding depends_with value_with
  value_kept zero i = same i
  value_kept (suc k) i =
      let a = nat_at p.nodes.a k in let b = nat_at p.nodes.b k in let ih = value_kept k in
      let on = depends_with p changed k in
      choice_kept (eqb i (p.counts.n + p.counts.m + k))
      (node_kept_lem (nat_at p.nodes.kinds k) (int_at p.nodes.lows k) (int_at p.nodes.highs k) (on a) (on b) (ih a) (ih b)) (ih i)

  -- over the first e links
  sum_kept : (i e : ℕ) → some (link_reaches p changed i) e ≡ false → sum_over p q u i e ≡ sum_over p q₀ u₀ i e
  unfolding some link_reaches sum_over value_of
  sum_kept i zero h = refl
  sum_kept i (suc e) h =
      let b = or-false (some (link_reaches p changed i) e) _ h in
      ap₂ (λ x y. x +ℤ y) (sum_kept i e b.0) (go (eqb (nat_at p.links.targets e) i) b.1)
    where
      j : ℕ
      j = nat_at p.links.sources e

      term : Bool → ℤ → ℤ
      term own value = cond own (int_at p.links.coefficients e *ℤ value) (pos 0)

      go : (b : Bool) → (b && depends_with p changed p.counts.k j) ≡ false → term b (value_with p q u p.counts.k j) ≡ term b (value_with p q₀ u₀ p.counts.k j)
      go true f = ap (term true) (value_kept p.counts.k j f)
      go false f = refl

  rate_kept : (i : ℕ) → reached p changed i ≡ false → rate_of p q u i ≡ rate_of p q₀ u₀ i
  unfolding reached rate_of
  rate_kept i e = ap floor65536 (sum_kept i p.counts.links e)

-- ---- who is not touched is not woken
pub touched-woken : (p : Plan) (t : ℕ) (due : ℕ → Bool) (i : ℕ) → touched p t due i ≡ false → woken due i ≡ false
unfolding touched
touched-woken p t due i e = (or-false (woken due i) _ e).0

-- ---- at an instant, by who is due there, the position of each integrator there, and what was held before
module _ (p : Plan) (limits : CountLimits p) (t : ℕ) (due : ℕ → Bool) (place : ℕ → ℤ) (h : Held) where
  abbrev q : List ℤ
  q = (outcome_by p t due place h).held.q

  abbrev u : List ℤ
  u = (outcome_by p t due place h).held.inputs

  pub source_kept : (i : ℕ) → changes_by p t (woken due) i ≡ false → value_with p q u zero i ≡ value_with p h.q h.inputs zero i
  unfolding changes_by value_with
  source_kept i = go (ltb i p.counts.n) (ltb i (p.counts.n + p.counts.m)) refl refl
    where
      go : (a b : Bool) → ltb i p.counts.n ≡ a → ltb i (p.counts.n + p.counts.m) ≡ b → cond a (woken due i) (b && is_commanded p t (i - p.counts.n)) ≡ false
          → cond a (int_at q i) (cond b (int_at u (i - p.counts.n)) (pos 0)) ≡ cond a (int_at h.q i) (cond b (int_at h.inputs (i - p.counts.n)) (pos 0))
      go true b l k e = output_kept p limits (woken due) (placed place) h.q i (ltb-true i p.counts.n l) e
      go false true l k e = input_kept_lem p h.inputs t (i - p.counts.n) limits.m (omega (arith, ltb-true, ltb-false)) e
      go false false l k e = refl

  pub rate_unreached : (i : ℕ) → reached p (changes_by p t (woken due)) i ≡ false → rate_of p q u i ≡ rate_of p h.q h.inputs i
  rate_unreached = rate_kept p (changes_by p t (woken due)) q u h.q h.inputs source_kept

  -- who is neither woken nor reached keeps its slope
  pub slope_kept : (i : ℕ) → touched p t due i ≡ false → slope_of p (outcome_by p t due place h).held i ≡ slope_of p h i
  unfolding touched slope_of
  slope_kept i e = rate_unreached i (or-false (woken due i) _ e).1
