-- Laws: the search for the first link of an integrator, and that the search for the next one goes on from there. Assumes nothing.
use Rattle.std.specs.Prelude.{◌≡◌, refl, Bool, true, false, List, Option, Some, None, MatchOption, unwrap_or}
use Prim.Native.Nat.{ℕ, suc, ◌+◌, ◌-◌, ◌≤◌, ◌<◌}
use native.Mathlib.Omega.{arith}
use Rattle.std.proofs.Math.Dec.{leb}
use Rattle.std.proofs.lemmas.Bool.{lt-leb}
use Rattle.std.proofs.Common.{leb-true, leb-false}
use Rattle.plan.specs.Lists.{nat_at, first_from}
use Rattle.plan.proofs.Laws.Searches.{First, first, first_unique}
use Rattle.rates.specs.Links.{first_link}

-- a turn of a search from i on among the numbers below n
module _ (test : ℕ → Bool) (i n : ℕ) where
  -- i does not pass: the search goes on behind it
  pub first_on : i < n → test i ≡ false → first_from test (i + 1) (n - (i + 1)) ≡ first_from test i (n - i)
  unfolding first_from
  first_on h e = let left : n - i ≡ suc (n - (i + 1)) = omega arith in rw (left, e)

  -- i passes
  pub first_here : i < n → test i ≡ true → i ≡ first_from test i (n - i)
  unfolding first_from
  first_here h e = let left : n - i ≡ suc (n - (i + 1)) = omega arith in rw (left, e)

  -- none is left
  pub first-end : n ≤ i → i ≡ first_from test i (n - i)
  unfolding first_from
  first-end h = let none : n - i ≡ 0 = omega arith in rw none

-- what `find` answers over the numbers from `from` on
pub found : (test : ℕ → Bool) (from n : ℕ) (r : Option ℕ) → from ≤ n
    → MatchOption r ((k : ℕ) → from ≤ k → k < n → test k ≡ false)
    (λ i. (from ≤ i) × (i < n) × (test i ≡ true) × ((k : ℕ) → from ≤ k → k < i → test k ≡ false))
    → unwrap_or r n ≡ first_from test from (n - from)
found test from n None l none =
    first_unique test from (n - from) n
    (record { from = l; most = omega arith; earlier = λ k h b. none k h b; passes = λ h. absurd (omega arith) })
found test from n (Some i) l (h, b, pass, before) =
    first_unique test from (n - from) i (record { from = h; most = omega arith; earlier = before; passes = λ _. pass })

module _ (targets : List ℕ) (links : ℕ) where
  pub first_link_lem : (i : ℕ) → First (λ e. leb i (nat_at targets e)) 0 links (first_link targets links i)
  unfolding first_link
  first_link_lem i = first (λ e. leb i (nat_at targets e)) 0 links

  pub first-most : (i : ℕ) → first_link targets links i ≤ links
  first-most i = omega (arith, (first_link_lem i).most)

  -- before the first link with target i all targets are below i, so the search for i + 1 goes on from there
  pub next-first : (i : ℕ) → first_from (λ e. leb (i + 1) (nat_at targets e)) (first_link targets links i) (links - first_link targets links i)
      ≡ first_link targets links (i + 1)
  unfolding first_link
  next-first i = first_unique (λ e. leb (i + 1) (nat_at targets e)) 0 links f whole
    where
      begin : ℕ
      begin = first_link targets links i

      test : ℕ → Bool
      test e = leb (i + 1) (nat_at targets e)

      f : ℕ
      f = first_from test begin (links - begin)

      rest : First test begin (links - begin) f
      rest = first test begin (links - begin)

      most : begin ≤ links
      most = first-most i

      low : (e : ℕ) → e < begin → test e ≡ false
      low e h = lt-leb (i + 1) (nat_at targets e) (omega (arith, leb-false i (nat_at targets e) ((first_link_lem i).earlier e (omega arith) h)))

      earlier : (e : ℕ) → e < f → test e ≡ false
      earlier e h = go (leb begin e) refl
        where
          go : (b : Bool) → leb begin e ≡ b → test e ≡ false
          go true l = rest.earlier e (leb-true begin e l) h
          go false l = low e (leb-false begin e l)

      whole : First test 0 links f
      whole =
          record {
            from = omega arith;
            most = omega (arith, rest.most, most);
            earlier = λ e _ h. earlier e h;
            passes = λ h. rest.passes (omega (arith, most));
          }

  pub first_ascends : (i : ℕ) → first_link targets links i ≤ first_link targets links (i + 1)
  first_ascends i =
      let begin = first_link targets links i in
      rw (next-first i) at (first (λ e. leb (i + 1) (nat_at targets e)) begin (links - begin)).from
