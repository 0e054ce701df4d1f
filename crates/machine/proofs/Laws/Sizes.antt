-- Laws: how large a rate and what it is made of can be, with outputs q and input values u within ±M, for a plan that keeps its rules.
-- Assumes nothing.
use Rattle.std.specs.Prelude.{◌≡◌, Bool, List, pos, neg_ℤ, ◌+ℤ◌, ◌-ℤ◌, ◌*ℤ◌, eqb}
use Rattle.std.proofs.Math.Path.{refl}
use Rattle.std.proofs.Math.Bool.{true, false, cond}
use Prim.Native.Nat.{ℕ, zero, suc, ◌+◌, ◌-◌, ◌*◌, ◌^◌, ◌≤◌, ◌<◌}
use native.Mathlib.Omega.{arith}
use Rattle.std.proofs.Math.IntN.{ℤ}
use Rattle.std.specs.Int.Signed.{le_z}
use Rattle.std.proofs.Math.Dec.{ltb}
use borrow.Author.Tests.{ltb-true, ltb-false, eqb-true, eqb-false}
use Rattle.integers.specs.Parts.{∣◌∣}
use Rattle.integers.proofs.Laws.Parts.{sum}
use Rattle.integers.proofs.Laws.Order.{size_sub, size_mul}
use Rattle.integers.specs.Division.{floor65536}
use Rattle.integers.proofs.Laws.Division.{floor_size}
use Rattle.integers.proofs.Laws.Range.{limited-size}
use Rattle.bitset.specs.Counts.{count_of}
use Rattle.plan.specs.Numbers.{M}
use Rattle.plan.specs.Lists.{nat_at, int_at}
use Rattle.plan.specs.Rules.{NodeRule, PlanRules}
use Rattle.plan.proofs.Laws.CountLimits.{CountLimits, count-limits}
use Rattle.plan.proofs.Laws.TestMeanings.{within-size}
use Rattle.plan.proofs.Laws.Small.{node-limits}
use Rattle.plan.specs.declared.Plan.{Plan}
use Rattle.machine.specs.Values.{clipped, node_value, rate_most, value_with, value_of, sum_over, rate_of}
use Rattle.machine.proofs.Laws.OwnLinks.{own_links, own_before}

size-cond : (t : Bool) (x y : ℤ) (b : ℕ) → ∣ x ∣ ≤ b → ∣ y ∣ ≤ b → ∣ cond t x y ∣ ≤ b
size-cond true x y b h k = h
size-cond false x y b h k = k

-- ---- the values of sources
clipped-size : (z : ℤ) → ∣ clipped z ∣ ≤ M
clipped-size z = limited-size (neg_ℤ (pos M)) (pos M) z M (omega arith) (omega arith)

pub node-size : (kind : ℕ) (lo hi a b : ℤ) → ∣ lo ∣ ≤ M → ∣ hi ∣ ≤ M → ∣ node_value kind a b lo hi ∣ ≤ M
unfolding node_value
node-size kind lo hi a b l h =
    size-cond (eqb kind 0) _ _ M (clipped-size (a -ℤ b))
    (size-cond (eqb kind 1) _ _ M (clipped-size (floor65536 (a *ℤ b)))
    (size-cond (eqb kind 2) _ _ M (limited-size lo hi a M l h)
    (size-cond (le_z b a) _ _ M h l)))

-- of the nodes' operands, whether or not a node's kind uses them
pub operands-most : (p : Plan) → PlanRules p → (j : ℕ) → j < p.counts.k → (nat_at p.nodes.a j ≤ 54) × (nat_at p.nodes.b j ≤ 54)
operands-most p rules j h = go (count-limits p rules.counts) (rules.nodes j h) (eqb (nat_at p.nodes.kinds j) 2) refl
  where
    go : CountLimits p → NodeRule p j → (b : Bool) → eqb (nat_at p.nodes.kinds j) 2 ≡ b → (nat_at p.nodes.a j ≤ 54) × (nat_at p.nodes.b j ≤ 54)
    go c r true e = omega (arith, r.unused (eqb-true (nat_at p.nodes.kinds j) 2 e))
    go c r false e = omega (arith, r.b-below (eqb-false (nat_at p.nodes.kinds j) 2 e))

limits-size : (p : Plan) (j : ℕ) → NodeRule p j → (∣ int_at p.nodes.lows j ∣ ≤ M) × (∣ int_at p.nodes.highs j ∣ ≤ M)
limits-size p j r =
    let w = node-limits p j r in ((within-size M (int_at p.nodes.lows j)).0 w.0, (within-size M (int_at p.nodes.highs j)).0 w.1)

module _ (p : Plan) (q u : List ℤ) (rules : PlanRules p) (outputs : (i : ℕ) → i < p.counts.n → ∣ int_at q i ∣ ≤ M)
    (inputs : (j : ℕ) → j < p.counts.m → ∣ int_at u j ∣ ≤ M) where
  with_size : (j : ℕ) → j ≤ p.counts.k → (i : ℕ) → ∣ value_with p q u j i ∣ ≤ M
  unfolding value_with
  with_size zero h i = go (ltb i p.counts.n) (ltb i (p.counts.n + p.counts.m)) refl refl
    where
      go : (a b : Bool) → ltb i p.counts.n ≡ a → ltb i (p.counts.n + p.counts.m) ≡ b → ∣ cond a (int_at q i) (cond b (int_at u (i - p.counts.n)) (pos 0)) ∣ ≤ M
      go true b e d = outputs i (ltb-true i p.counts.n e)
      go false true e d = inputs (i - p.counts.n) (omega (arith, ltb-true, ltb-false))
      go false false e d = omega arith
  with_size (suc j) h i =
      let l = limits-size p j (rules.nodes j h) in
      size-cond (eqb i (p.counts.n + p.counts.m + j)) _ _ M (node-size (nat_at p.nodes.kinds j) _ _ _ _ l.0 l.1) (with_size j (omega arith) i)

  pub value-size : (i : ℕ) → ∣ value_of p q u i ∣ ≤ M
  unfolding value_of
  value-size i = with_size p.counts.k (omega arith) i

  pub difference_size : (i j : ℕ) → ∣ value_of p q u i -ℤ value_of p q u j ∣ ≤ 2 ^ 31
  difference_size i j = size_sub (value_of p q u i) (value_of p q u j) M M (value-size i) (value-size j)

  pub product_size : (i j : ℕ) → ∣ value_of p q u i *ℤ value_of p q u j ∣ ≤ 2 ^ 60
  product_size i j = size_mul (value_of p q u i) (value_of p q u j) M M (value-size i) (value-size j)

  -- ---- the rate
  pub term-size : (e : ℕ) → e < p.counts.links → ∣ int_at p.links.coefficients e *ℤ value_of p q u (nat_at p.links.sources e) ∣ ≤ 2 ^ 54
  term-size e h =
      let c = int_at p.links.coefficients e in
      size_mul c (value_of p q u (nat_at p.links.sources e)) 16777216 M ((within-size 16777216 c).0 (rules.links e h).coefficient)
      (value-size (nat_at p.links.sources e))

  -- each own link adds at most one term's size
  sum_by_links : (i e : ℕ) → e ≤ p.counts.links → ∣ sum_over p q u i e ∣ ≤ own_links p i e * 2 ^ 54
  unfolding sum_over count_of
  sum_by_links i zero h = omega arith
  sum_by_links i (suc e) h = go (eqb (nat_at p.links.targets e) i) (sum_by_links i e (omega arith))
    where
      v : ℤ
      v = int_at p.links.coefficients e *ℤ value_of p q u (nat_at p.links.sources e)

      go : (b : Bool) → ∣ sum_over p q u i e ∣ ≤ own_links p i e * 2 ^ 54
          → ∣ sum_over p q u i e +ℤ cond b v (pos 0) ∣ ≤ cond b (suc (own_links p i e)) (own_links p i e) * 2 ^ 54
      go true k = omega (arith, sum (sum_over p q u i e) v, term-size e h)
      go false k = omega (arith, sum (sum_over p q u i e) (pos 0))

  pub sum-size : (i e : ℕ) → e ≤ p.counts.links → ∣ sum_over p q u i e ∣ ≤ 56 * 2 ^ 54
  sum-size i e h = omega (arith, sum_by_links i e h, own_before p rules i e h)

  pub rate-size : (i : ℕ) → ∣ rate_of p q u i ∣ ≤ rate_most
  unfolding rate_of
  rate-size i = floor_size (sum_over p q u i p.counts.links) 65536 rate_most (sum-size i p.counts.links (omega arith))
