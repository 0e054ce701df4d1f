-- Laws: an array's entries folded by a test; and a loop that tests the entries of an array from an index on, to the end: what it has found so
-- far and what is left decide the whole. Assumes nothing.
use Rattle.std.specs.Prelude.{◌≡◌, Bool, true, false, ◌&&◌, List, [], ◌∷◌, ℕ, ◌+◌, ◌≤◌, ◌<◌, length, get_or, drop, fold}
use Rattle.std.proofs.Math.Path.{sym}
use Rattle.std.proofs.Common.{◌∙◌, add-one, drop_of_length-le, drop-cons}
use Rattle.std.proofs.Math.Bool.{and-true, and-false}
use Rattle.plan.specs.Lists.{all}

-- each entry is tested, before what the ones before it have shown
pub folded : {A : Type 0} (test : A → Bool) (found : Bool) (xs : List A) → fold (λ so_far x. test x && so_far) found xs ≡ (found && all test xs)
unfolding all
folded test found [] = rw and-true
folded test found (x ∷ xs) = go (test x) found (folded test (test x && found) xs)
  where
    go : (here so_far : Bool) {whole : Bool} → whole ≡ ((here && so_far) && all test xs) → whole ≡ (so_far && (here && all test xs))
    go true so_far e = e
    go false true e = e
    go false false e = e

-- ---- from an index on
module _ {A : Type 0} (test : A → Bool) (z : A) (xs : List A) (i : ℕ) (found : Bool) {whole : Bool} (left : (found && all test (drop i xs)) ≡ whole) where
  pub none_left : length xs ≤ i → found ≡ whole
  unfolding all
  none_left h = sym (and-true found) ∙ (rw (drop_of_length-le xs h) at left)

  module _ (h : i < length xs) where
    step : (found && (test (get_or xs i z) && all test (drop (i + 1) xs))) ≡ whole
    unfolding all
    step = rw (add-one i) (rw (drop-cons xs i z h) at left)

    pub one_more : test (get_or xs i z) ≡ true → (found && all test (drop (i + 1) xs)) ≡ whole
    one_more e = rw e at step

    pub one_fails : test (get_or xs i z) ≡ false → (false && all test (drop (i + 1) xs)) ≡ whole
    one_fails e = sym (and-false found) ∙ (rw e at step)
