-- Laws: the sum of a rate on its way: at most 256 terms of at most 2^54, so it stays within 2^62, and a turn of the loop adds one term.
-- Assumes nothing.
use Rattle.std.specs.Prelude.{◌≡◌, List, ℤ, ◌+ℤ◌}
use Prim.Native.Nat.{ℕ, zero, suc, ◌+◌, ◌-◌, ◌*◌, ◌^◌, ◌≤◌, ◌<◌}
use native.Mathlib.Omega.{arith}
use Rattle.std.specs.Int.{w64}
use Rattle.std.proofs.Common.{SFits}
use Rattle.integers.specs.Parts.{∣◌∣}
use Rattle.integers.proofs.Laws.Parts.{sum, zs}
use Rattle.integers.proofs.Laws.Order.{size_mul}
use Rattle.plan.specs.Numbers.{M}
use Rattle.plan.specs.Lists.{nat_at, int_at}
use Rattle.plan.specs.declared.Links.{Links}
use Rattle.rates.specs.Links.{term, sum_from, RateReady}

module _ {links : Links} {values : List ℤ} {from to : ℕ} (r : RateReady links values from to) where
  -- ---- the operands
  pub coefficient_fits : (e : ℕ) → e < to → SFits w64 (int_at links.coefficients e)
  coefficient_fits e h = omega (arith, zs, r.small e h)

  pub value_fits : (i : ℕ) → SFits w64 (int_at values i)
  value_fits i = omega (arith, zs, r.sized i)

  -- ---- a term
  term-size : (e : ℕ) → e < to → ∣ term links values e ∣ ≤ 2 ^ 54
  term-size e h = size_mul (int_at links.coefficients e) (int_at values (nat_at links.sources e)) 16777216 M (r.small e h) (r.sized (nat_at links.sources e))

  pub term_fits : (e : ℕ) → e < to → SFits w64 (term links values e)
  term_fits e h = let s = term-size e h in omega (arith, zs)

  -- ---- the sum of the first d terms
  sum-size : (d : ℕ) → from + d ≤ to → ∣ sum_from (term links values) from d ∣ ≤ d * 2 ^ 54
  unfolding sum_from
  sum-size zero h = omega arith
  sum-size (suc d) h =
      let f = term links values in
      let s = term-size (from + d) (omega arith) in let before = sum-size d (omega arith) in
      omega (arith, sum (sum_from f from d) (f (from + d)))

  -- up to link e
  pub sum_fits : (e : ℕ) → from ≤ e → e ≤ to → SFits w64 (sum_from (term links values) from (e - from))
  sum_fits e h l = let s = sum-size (e - from) (omega arith) in omega (arith, zs, r.few)

  -- link e's term is one more
  pub sum_more : (e : ℕ) → from ≤ e
      → sum_from (term links values) from (e + 1 - from)
      ≡ sum_from (term links values) from (e - from) +ℤ term links values e
  unfolding sum_from
  sum_more e h =
      let more : e + 1 - from ≡ suc (e - from) = omega arith in let at : from + (e - from) ≡ e = omega arith in
      rw (more, at)
