-- Laws: a loop that tests one index after the other by a function. Assumes nothing.
use Rattle.std.specs.Prelude.{◌≡◌, Bool, true, not, ℤ, ◌&&◌, List, Option}
use Rattle.std.proofs.Math.Path.{refl}
use Rattle.std.proofs.Common.{sym, ◌∙◌, add-one, arith, to_z-of_z}
use Rattle.std.proofs.Math.Bool.{false, and-false, and-true}
use Prim.Native.Nat.{ℕ, zero, suc, ◌+◌, ◌^◌, ◌<◌}
use Rattle.std.specs.Int.Signed.{mag}
use Rattle.std.specs.Int.{w64}
use mir.Val.{hbits}
use borrow.Author.Rules.{sfits_of}
use Rattle.std.proofs.lemmas.Bool.{not-true, not-false}
use Rattle.integers.proofs.Laws.Signed64.{rd}
use Rattle.std.specs.Fn.{Called}
use Rattle.std.specs.Iterator.{YieldsThen}
use Rattle.std.specs.List.{FoldsTo, list_all, range_with_len}
use Rattle.std.specs.Option.{MatchOption}
use Rattle.std.proofs.iter.Yields.{nat_range_steps}
use Rattle.std.proofs.lemmas.Iterator.{YieldsList-from_range}
use Rattle.std.proofs.lemmas.Iterator.Search.{all_from_yields_List}
use denote.Param.Members.{Mut}
use Rattle.std.specs.declared.ops.Range.{Range}
use Rattle.plan.specs.Lists.{every}
use Rattle.plan.proofs.Laws.Searches.{below_suc}

-- An element of an array of signed numbers goes to a function as its bits, and is read back from them there.
pub element : {z : ℤ} → mag z < 2 ^ hbits w64 → rd z ≡ z
element h = to_z-of_z {w = w64} (sfits_of h)

-- What a test says once the code has looked at the function's answer by `if !answer`.
pub true_by_answer : {answer test : Bool} → answer ≡ test → answer ≡ true → test ≡ true
true_by_answer e t = sym e ∙ t

pub false_by_answer : {answer test : Bool} → answer ≡ test → answer ≡ false → test ≡ false
false_by_answer e t = sym e ∙ t

-- The same by the value of `!answer` itself.
pub held : {answer test : Bool} → answer ≡ test → not answer ≡ false → test ≡ true
held e t = true_by_answer e (not-false _ t)

pub failed : {answer test : Bool} → answer ≡ test → not answer ≡ true → test ≡ false
failed e t = false_by_answer e (not-true _ t)

module _ (test : ℕ → Bool) where
  pub every-none : every test 0 ≡ true
  unfolding every
  every-none = refl

  -- one index more passes
  pub every_more : {k : ℕ} → every test k ≡ true → test k ≡ true → every test (k + 1) ≡ true
  unfolding every
  every_more {k} e t = rw (add-one k, e, t)

  -- one of them fails
  pub every_fails : (n k : ℕ) → k < n → test k ≡ false → every test n ≡ false
  unfolding every
  every_fails zero k h t = absurd (omega arith)
  every_fails (suc n) k h t =
      below_suc (λ j. test j ≡ false → every test (suc n) ≡ false) h
      (λ l s. rw (every_fails n k l s)) (λ s. rw (s, and-false (every test n))) t

and-joined : (a b c : Bool) → (a && b && c) ≡ (a && (b && c))
and-joined true b c = refl
and-joined false b c = refl

-- What `all` over the numbers below n answers, where the closure is asked the test.
module _ (test : ℕ → Bool) where
  listed_from : (a n : ℕ) → every test (a + n) ≡ (every test a && list_all test (range_with_len a n))
  unfolding every
  listed_from a zero = let none : a + 0 ≡ a = omega arith in rw (none, and-true (every test a))
  listed_from a (suc n) =
      let next : a + suc n ≡ a + 1 + n = omega arith in
      rw (next, listed_from (a + 1) n, add-one a) (and-joined (every test a) (test a) _)

  pub all_below : {F : Type 0} {g : Mut F (ℕ × Unit {0}) Bool} (n : ℕ) (s u : Range ℕ) (f : F) (r : Bool)
      → (xs : List ℕ) × (o : Option ℕ) × (j : F) × YieldsThen nat_range_steps s xs o u × FoldsTo (λ p x q. Called g p (x, tt) true q) f xs j
      × MatchOption o (r ≡ true) (λ x. (r ≡ false) × ((h : F) × Called g j (x, tt) false h))
      → s ≡ record { start = 0; end = n } → ((x : ℕ) (b : Bool) (q : F) → Called g f (x, tt) b q → (q ≡ f) × (b ≡ test x)) → r ≡ every test n
  unfolding every
  all_below n s u f r ran e calls =
      let whole : every test (0 + n) ≡ list_all test (range_with_len 0 n) = listed_from 0 n in
      let same : 0 + n ≡ n = omega arith in
      all_from_yields_List test u f r ran (YieldsList-from_range 0 n n e (omega arith)) calls ∙ sym (rw same at whole)
