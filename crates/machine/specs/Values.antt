-- Binding definition: node kinds, the values of sources, and "Rate".
use Rattle.std.specs.Prelude.{cond, List, ℕ, zero, suc, ◌+◌, ◌-◌, ◌*◌, ◌^◌, ℤ, pos, neg_ℤ, ◌+ℤ◌, ◌-ℤ◌, ◌*ℤ◌, ltb, eqb}
use Rattle.std.specs.Int.Signed.{le_z}
use Rattle.integers.specs.Division.{floor65536}
use Rattle.integers.specs.Range.{limited}
use Rattle.plan.specs.Numbers.{M, kind_difference, kind_product, kind_limit}
use Rattle.plan.specs.Lists.{nat_at, int_at}
use Rattle.plan.specs.declared.Plan.{Plan}

-- "clipped to ±M"
abbrev pub clipped : ℤ → ℤ
clipped z = limited (neg_ℤ (pos M)) (pos M) z

-- "Node kinds, with a and b the values of A and B: 0 is a−b; 1 is floor(a×b / 65,536); both then clipped to ±M .. 2 is a limited to lo..hi
-- .. 3 is hi if a ≥ b, else lo."
unfoldable pub node_value : (kind : ℕ) (a b lo hi : ℤ) → ℤ
node_value kind a b lo hi =
    cond (eqb kind kind_difference) (clipped (a -ℤ b))
    (cond (eqb kind kind_product) (clipped (floor65536 (a *ℤ b)))
    (cond (eqb kind kind_limit) (limited lo hi a)
    (cond (le_z b a) hi lo)))

-- with the outputs q and the input values u
module _ (p : Plan) (q u : List ℤ) where
  -- The value of source i once the first j nodes are worked out: "integrators 0 to n−1, inputs n to n+m−1, nodes from n+m"; "Integrators
  -- give q, inputs their value, nodes their value." A node that is not worked out yet counts as 0.
  unfoldable pub value_with : (j i : ℕ) → ℤ
  value_with zero i = cond (ltb i p.counts.n) (int_at q i) (cond (ltb i (p.counts.n + p.counts.m)) (int_at u (i - p.counts.n)) (pos 0))
  value_with (suc j) i =
      cond (eqb i (p.counts.n + p.counts.m + j))
      (node_value (nat_at p.nodes.kinds j) (value_with j (nat_at p.nodes.a j)) (value_with j (nat_at p.nodes.b j)) (int_at p.nodes.lows j) (int_at p.nodes.highs j))
      (value_with j i)

  -- "Node values are worked out in node order."
  unfoldable pub value_of : ℕ → ℤ
  value_of i = value_with p.counts.k i

  -- the sum of coefficient × source value over those of the first e links that are integrator i's
  unfoldable pub sum_over : (i e : ℕ) → ℤ
  sum_over i zero = pos 0
  sum_over i (suc e) =
      sum_over i e
      +ℤ cond (eqb (nat_at p.links.targets e) i) (int_at p.links.coefficients e *ℤ value_of (nat_at p.links.sources e)) (pos 0)

  -- "s = floor(sum of coefficient × source value over its links / 65,536)"
  unfoldable pub rate_of : ℕ → ℤ
  rate_of i = floor65536 (sum_over i p.counts.links)

-- ---- how large a rate and a slope may be, under the rules of a plan and with outputs and inputs within ±M
-- a rate's size at most: 56 sources of size 2^30, each by a coefficient of size 2^24, over 2^16 (Laws/Sizes)
abbrev pub rate_most : ℕ
rate_most = 56 * 2 ^ 38

-- a power of two above it
abbrev pub rate_limit : ℕ
rate_limit = 2 ^ 44

-- a slope is a rate (Laws/Held)
abbrev pub slope_most : ℕ
slope_most = rate_most

abbrev pub slope_limit : ℕ
slope_limit = rate_limit
