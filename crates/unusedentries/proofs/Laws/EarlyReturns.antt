-- Laws: a chain of early returns: its tests in order. It answers false at the first that fails, and else what the last says. Assumes
-- nothing.
use Rattle.std.specs.Prelude.{◌≡◌, refl, Bool, true, false, ◌↔◌, List, ℕ, ◌+◌, ◌<◌, get_or}
use Rattle.std.proofs.Common.{sym, ◌∙◌, add-one}
use Rattle.plan.specs.Lists.{every}
use Rattle.plan.proofs.Laws.Searches.{every_true}
use Rattle.plan.proofs.Laws.TestMeanings.{Means}
use Rattle.entryrules.proofs.Laws.Testing.{every-none, every_more, every_fails}

-- the first k of the tests pass
unfoldable pub passes : List Bool → ℕ → Bool
passes tests k = every (λ j. get_or tests j true) k

-- The same as a record, from which the tests and their number are found.
pub record Passed (tests : List Bool) (k : ℕ) : Type 0 where
  pub so_far : passes tests k ≡ true

pub begin : (tests : List Bool) → Passed tests 0
unfolding passes
begin tests = record { so_far = every-none _ }

module _ {tests : List Bool} {k : ℕ} (p : Passed tests k) where
  pub next : get_or tests k true ≡ true → Passed tests (k + 1)
  unfolding passes
  next e = record { so_far = every_more _ p.so_far e }

  pub passed_at : (j : ℕ) → j < k → get_or tests j true ≡ true
  unfolding passes
  passed_at j h = (every_true _ k).0 p.so_far j h

  -- where all tests but the last have passed, the last is the answer
  pub last : {whole : Bool} → passes tests (k + 1) ≡ whole → {answer : Bool} → answer ≡ get_or tests k true → answer ≡ whole
  unfolding passes every
  last all_of e = rw (add-one k, p.so_far, ← e) at all_of

-- A test that fails decides, whatever the others say. So no return's proof rests on another test.
pub fails : (tests : List Bool) {n : ℕ} {whole : Bool} → passes tests n ≡ whole → (k : ℕ) → k < n → get_or tests k true ≡ false → false ≡ whole
unfolding passes
fails tests {n} all_of k h e = sym (every_fails _ n k h e) ∙ all_of

-- The code's order of the tests and the definition's: tests that mean the same are one test.
pub same_tests : {a b : Bool} {P Q : Type 0} → Means a P → Means b Q → P ↔ Q → a ≡ b
same_tests {a = true} f g same = sym (g.1 (same.0 (f.0 refl)))
same_tests {a = false} {b = true} f g same = f.1 (same.1 (g.0 refl))
same_tests {a = false} {b = false} f g same = refl
