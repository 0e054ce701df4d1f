-- Laws: at most 56 links are one integrator's: among them the sources strictly ascend, and there are at most 56 sources. Assumes nothing.
use Rattle.std.specs.Prelude.{◌≡◌, Bool, ◌⊎◌}
use Rattle.std.proofs.Math.Path.{refl}
use Rattle.std.proofs.Common.{◌∙◌, inl, inr}
use Rattle.std.proofs.Math.Bool.{true, false}
use Prim.Native.Nat.{ℕ, zero, suc, ◌+◌, ◌≤◌, ◌<◌}
use native.Mathlib.Omega.{arith}
use Rattle.std.proofs.Math.Dec.{eqb}
use borrow.Author.Tests.{eqb-true, eqb-false, eq-eqb, ne_eqb}
use Rattle.bitset.specs.Counts.{count_of}
use Rattle.plan.specs.Lists.{nat_at}
use Rattle.plan.specs.Rules.{AscendsAt, PlanRules}
use Rattle.plan.proofs.Laws.CountLimits.{count-limits}
use Rattle.plan.specs.declared.Plan.{Plan}

-- how many of the first e links are integrator i's
abbrev pub own_links : Plan → ℕ → ℕ → ℕ
own_links p i e = count_of (λ j. eqb (nat_at p.links.targets j) i) e

own : (p : Plan) (i e : ℕ) → nat_at p.links.targets e ≡ i → own_links p i (suc e) ≡ suc (own_links p i e)
unfolding count_of
own p i e h = rw (eq-eqb (nat_at p.links.targets e) i h)

other : (p : Plan) (i e : ℕ) → (nat_at p.links.targets e ≡ i → ⊥) → own_links p i (suc e) ≡ own_links p i e
unfolding count_of
other p i e h = rw (ne_eqb (nat_at p.links.targets e) i h)

-- what the order says of the links before link e
record Earlier (p : Plan) (i e : ℕ) : Type 0 where
  -- link e is the integrator's: the sources of the earlier ones are different numbers below its source
  fewer : nat_at p.links.targets e ≡ i → own_links p i e ≤ nat_at p.links.sources e
  -- its target is lower: none is the integrator's
  none : nat_at p.links.targets e < i → own_links p i e ≡ 0

next : (p : Plan) (i e : ℕ) → AscendsAt p.links.targets p.links.sources (suc e) → Earlier p i e → Earlier p i (suc e)
next p i e order b = go (order e refl)
  where
    lower : nat_at p.links.targets e < i → own_links p i (suc e) ≡ 0
    lower h = other p i e (omega arith) ∙ b.none h

    go : (nat_at p.links.targets e < nat_at p.links.targets (suc e))
        ⊎ ((nat_at p.links.targets e ≡ nat_at p.links.targets (suc e)) × (nat_at p.links.sources e < nat_at p.links.sources (suc e)))
        → Earlier p i (suc e)
    go (inl h) = record { fewer = λ k. omega (arith, lower (omega arith)); none = λ k. lower (omega arith) }
    go (inr h) =
        record {
          fewer = λ k. let same : nat_at p.links.targets e ≡ i = omega arith in omega (arith, own p i e same, b.fewer same);
          none = λ k. lower (omega arith);
        }

module _ (p : Plan) (rules : PlanRules p) where
  pub sources-most : p.counts.n + p.counts.m + p.counts.k ≤ 56
  sources-most = omega (arith, count-limits p rules.counts)

  before : (i e : ℕ) → e < p.counts.links → Earlier p i e
  unfolding count_of
  before i zero h = omega arith
  before i (suc e) h = next p i e (rules.links (suc e) h).order (before i e (omega arith))

  -- of the first e links
  pub own_before : (i e : ℕ) → e ≤ p.counts.links → own_links p i e ≤ 56
  unfolding count_of
  own_before i zero h = omega arith
  own_before i (suc e) h = go (eqb (nat_at p.links.targets e) i) refl (own_before i e (omega arith))
    where
      go : (b : Bool) → eqb (nat_at p.links.targets e) i ≡ b → own_links p i e ≤ 56 → own_links p i (suc e) ≤ 56
      go true t k =
          let same = eqb-true (nat_at p.links.targets e) i t in
          omega (arith, own p i e same, (before i e h).fewer same, (rules.links e h).source, sources-most)
      go false t k = omega (arith, other p i e (eqb-false (nat_at p.links.targets e) i t))

  pub own-links : (i : ℕ) → own_links p i p.counts.links ≤ 56
  own-links i = own_before i p.counts.links (omega arith)
