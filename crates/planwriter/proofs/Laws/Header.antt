-- Laws: what the writers of the header ask, that the counts are limited; and how large the header's numbers then are. Assumes nothing.
use Rattle.std.specs.Prelude.{◌≡◌, List}
use Rattle.std.proofs.Math.Path.{refl}
use Prim.Native.Nat.{ℕ, zero, suc, ◌+◌, ◌*◌, ◌≤◌, ◌<◌}
use Rattle.std.proofs.Math.Numerals.{add-one}
use native.Mathlib.Omega.{arith}
use Rattle.plan.specs.Numbers.{sections, header_bytes}
use Rattle.plan.specs.Tests.{count_list}
use Rattle.plan.specs.Rules.{CountsRule}
use Rattle.plan.proofs.Laws.Layout.{each_section}
use Rattle.plan.specs.declared.Plan.{Plan}
use Rattle.plan.specs.Encoding.{length_from, offset_from}
use Rattle.planwriter.specs.Header.{CountsWithinLimits}

module _ (cs : List ℕ) where
  -- the first offset, and each next one in the code's form
  pub offset-none : offset_from cs 0 ≡ header_bytes
  unfolding offset_from
  offset-none = refl

  pub offset_more : (k : ℕ) → offset_from cs (k + 1) ≡ offset_from cs k + length_from cs k
  unfolding offset_from
  offset_more k = rw add-one

  module _ (l : CountsWithinLimits cs) where
    -- the largest section is that of 256 links
    pub length_limit : (k : ℕ) → k < sections → length_from cs k ≤ 3072
    length_limit =
        each_section (λ k. length_from cs k ≤ 3072)
        (omega (arith, l 0 (omega arith))) (omega (arith, l 1 (omega arith))) (omega (arith, l 2 (omega arith)))
        (omega (arith, l 3 (omega arith))) (omega (arith, l 4 (omega arith)))

    pub offset_limit : (k : ℕ) → k ≤ sections → offset_from cs k ≤ header_bytes + 3072 * k
    unfolding offset_from
    offset_limit zero h = omega arith
    offset_limit (suc k) h = let ih = offset_limit k (omega arith) in let s = length_limit k h in omega arith

-- the counts of a plan
module _ (p : Plan) where
  pub counts-within-limits : CountsRule p → CountsWithinLimits (count_list p)
  counts-within-limits r k h = (r k h).1
