-- Laws: the rate over an integrator's range of links is document 01's sum over all links with that target: links ascend by target, so its
-- own stand together. By it the slopes of what is held. Assumes nothing.
use Rattle.std.specs.Prelude.{◌≡◌, refl, Bool, true, false, List, ℤ, ◌+ℤ◌, eqb}
use Rattle.std.proofs.Math.Path.{sym}
use Rattle.std.proofs.Common.{ap, ◌∙◌, inl, inr, arith, add-suc}
use Prim.Native.Nat.{ℕ, zero, suc, ◌+◌, ◌-◌, ◌≤◌, ◌<◌}
use Rattle.std.proofs.Math.Nat.{add-zero}
use Rattle.std.proofs.Math.IntN.{pos}
use borrow.Author.Tests.{leb-true, leb-false, eqb-true, eqb-false, eq-eqb, ne_eqb}
use Rattle.integers.specs.Parts.{∣◌∣}
use Rattle.integers.proofs.Laws.Parts.{sum, zs}
use Rattle.integers.specs.Division.{floor65536}
use Rattle.plan.specs.Numbers.{M}
use Rattle.plan.specs.Lists.{nat_at, int_at, row}
use Rattle.plan.specs.Rules.{PlanRules}
use Rattle.plan.proofs.Laws.CountLimits.{count-limits}
use Rattle.plan.proofs.Laws.TestMeanings.{within-size}
use Rattle.plan.proofs.Laws.Rows.{row_at, row_ext}
use Rattle.plan.specs.declared.Plan.{Plan}
use Rattle.machine.specs.Values.{value_of, sum_over, rate_of}
use Rattle.machine.specs.Held.{Held, slope_of}
use Rattle.machine.proofs.Laws.Ascending.{Before, ascending}
use Rattle.machine.proofs.Laws.OwnLinks.{sources-most}
use Rattle.machine.proofs.Laws.Held.{slope_is}
use Rattle.rates.specs.Links.{first_link, ranges_of, term, sum_from, range_rate, RateReady, RatesReady}
use Rattle.rates.proofs.Laws.Ranges.{first_link_lem, first-most, first_ascends}

-- where integrator i's range begins
abbrev begin : Plan → ℕ → ℕ
begin p i = first_link p.links.targets p.counts.links i

-- ---- the sum over links that stand together
module _ (p : Plan) (q u : List ℤ) (i : ℕ) where
  -- none is the integrator's
  sum_past : (a d : ℕ) → ((e : ℕ) → a ≤ e → e < a + d → nat_at p.links.targets e ≡ i → ⊥) → sum_over p q u i (a + d) ≡ sum_over p q u i a
  unfolding sum_over
  sum_past a zero h = rw add-zero
  sum_past a (suc d) h =
      let s = sum_over p q u i (a + d) in
      let other = ne_eqb (nat_at p.links.targets (a + d)) i (h (a + d) (omega arith) (omega arith)) in
      let none : s +ℤ pos 0 ≡ s = omega (arith, zs, sum s (pos 0)) in
      rw (add-suc, other) (none ∙ sum_past a d (λ e b l. h e b (omega arith)))

  -- all are the integrator's
  sum-own : (values : List ℤ) (a d : ℕ) → ((e : ℕ) → a ≤ e → e < a + d → nat_at p.links.targets e ≡ i)
      → ((e : ℕ) → e < a + d → int_at values (nat_at p.links.sources e) ≡ value_of p q u (nat_at p.links.sources e))
      → sum_over p q u i (a + d) ≡ sum_over p q u i a +ℤ sum_from (term p.links values) a d
  unfolding sum_over sum_from
  sum-own values a zero h v = let s = sum_over p q u i a in rw add-zero (omega (arith, zs, sum s (pos 0)))
  sum-own values a (suc d) h v =
      let x = sum_over p q u i a in let y = sum_from (term p.links values) a d in let z = term p.links values (a + d) in
      let own = eq-eqb (nat_at p.links.targets (a + d)) i (h (a + d) (omega arith) (omega arith)) in
      let more : x +ℤ y +ℤ z ≡ x +ℤ (y +ℤ z) = omega (arith, zs, sum x y, sum (x +ℤ y) z, sum y z, sum x (y +ℤ z)) in
      rw (add-suc, own, sum-own values a d (λ e b l. h e b (omega arith)) (λ e l. v e (omega arith)), ← v (a + d) (omega arith)) more

module _ (p : Plan) (rules : PlanRules p) where
  -- ---- the targets before a range's beginning, and from there on
  before : (i e : ℕ) → e < begin p i → nat_at p.links.targets e < i
  before i e h = leb-false i (nat_at p.links.targets e) ((first_link_lem p.links.targets p.counts.links i).earlier e (omega arith) h)

  from : (i e : ℕ) → begin p i ≤ e → e < p.counts.links → i ≤ nat_at p.links.targets e
  from i e h l = go (eqb (begin p i) e) refl
    where
      here : i ≤ nat_at p.links.targets (begin p i)
      here = leb-true i (nat_at p.links.targets (begin p i)) ((first_link_lem p.links.targets p.counts.links i).passes (omega arith))

      later : {a b a' b' : ℕ} → Before a b a' b' → a ≤ a'
      later (inl h) = omega arith
      later (inr h) = omega arith

      go : (t : Bool) → eqb (begin p i) e ≡ t → i ≤ nat_at p.links.targets e
      go true t = rw (eqb-true (begin p i) e t) at here
      go false t =
          let above = ascending p.links.targets p.links.sources p.counts.links (λ d k. (rules.links d k).order) (begin p i) e in
          omega (arith, here, later (above (omega (arith, eqb-false (begin p i) e t)) l))

  -- ---- the table of ranges
  pub ranges_at : (i : ℕ) → i ≤ p.counts.n → nat_at (ranges_of p) i ≡ first_link p.links.targets p.counts.links i
  unfolding ranges_of
  ranges_at i h = row_at 0 33 (p.counts.n + 1) (first_link p.links.targets p.counts.links) i (omega (arith, count-limits p rules.counts)) (omega arith)

  pub own-rated : (values : List ℤ) → ((i : ℕ) → ∣ int_at values i ∣ ≤ M) → RatesReady p.counts.n p.links (ranges_of p) values
  own-rated values sized i h = rw (ranges_at i (omega arith), ranges_at (i + 1) (omega arith)) rated
    where
      last : (e : ℕ) → e < begin p (i + 1) → e < p.counts.links
      last e l = omega (arith, first-most p.links.targets p.counts.links (i + 1))

      rated : RateReady p.links values (begin p i) (begin p (i + 1))
      rated =
          record {
            order = first_ascends p.links.targets p.counts.links i;
            few = omega (arith, first-most p.links.targets p.counts.links (i + 1), count-limits p rules.counts);
            known = λ e l. omega (arith, (rules.links e (last e l)).source, sources-most p rules);
            small = λ e l. (within-size 16777216 (int_at p.links.coefficients e)).0 (rules.links e (last e l)).coefficient;
            sized = sized;
          }

  -- ---- the rate
  module _ (values q u : List ℤ) (same : (i : ℕ) → i < p.counts.n + p.counts.m + p.counts.k → int_at values i ≡ value_of p q u i) where
    own-sum : (i : ℕ) → sum_from (term p.links values) (begin p i) (begin p (i + 1) - begin p i) ≡ sum_over p q u i p.counts.links
    unfolding sum_over
    own-sum i = sym (behind ∙ within ∙ ahead)
      where
        a : ℕ
        a = begin p i

        b : ℕ
        b = begin p (i + 1)

        ab : a ≤ b
        ab = first_ascends p.links.targets p.counts.links i

        most : b ≤ p.counts.links
        most = first-most p.links.targets p.counts.links (i + 1)

        behind : sum_over p q u i p.counts.links ≡ sum_over p q u i b
        behind =
            let all : b + (p.counts.links - b) ≡ p.counts.links = omega (arith, most) in
            rw all at (sum_past p q u i b (p.counts.links - b) (λ e h l t. omega (arith, from (i + 1) e h (omega (arith, most)))))

        within : sum_over p q u i b ≡ sum_over p q u i a +ℤ sum_from (term p.links values) a (b - a)
        within =
            let all : a + (b - a) ≡ b = omega (arith, ab) in
            rw all at (sum-own p q u i values a (b - a)
            (λ e h l. omega (arith, ab, from i e h (omega (arith, ab, most)), before (i + 1) e (omega (arith, ab))))
            (λ e l. same (nat_at p.links.sources e) (rules.links e (omega (arith, ab, most))).source))

        ahead : sum_over p q u i a +ℤ sum_from (term p.links values) a (b - a) ≡ sum_from (term p.links values) a (b - a)
        ahead =
            let s = sum_from (term p.links values) a (b - a) in let all : 0 + a ≡ a = omega arith in
            let none : sum_over p q u i a ≡ pos 0 = rw all at (sum_past p q u i 0 a (λ e h l t. omega (arith, before i e (omega arith)))) in
            rw none (omega (arith, zs, sum (pos 0) s))

    own-rate : (i : ℕ) → i < p.counts.n
        → range_rate p.links values (nat_at (ranges_of p) i) (nat_at (ranges_of p) (i + 1)) ≡ rate_of p q u i
    unfolding range_rate rate_of
    own-rate i h = rw (ranges_at i (omega arith), ranges_at (i + 1) (omega arith)) (ap floor65536 (own-sum i))

  -- ---- the slopes, by what is held
  module _ (values : List ℤ) (h : Held) (same : (i : ℕ) → i < p.counts.n + p.counts.m + p.counts.k → int_at values i ≡ value_of p h.q h.inputs i) where
    pub own-slope : (i : ℕ) → i < p.counts.n
        → range_rate p.links values (nat_at (ranges_of p) i) (nat_at (ranges_of p) (i + 1)) ≡ slope_of p h i
    own-slope i l = own-rate values h.q h.inputs same i l ∙ sym (slope_is p h i)

    pub own_slopes : row (pos 0) 32 p.counts.n (λ i. range_rate p.links values (nat_at (ranges_of p) i) (nat_at (ranges_of p) (i + 1)))
        ≡ row (pos 0) 32 p.counts.n (slope_of p h)
    own_slopes = row_ext (pos 0) 32 p.counts.n _ _ own-slope
