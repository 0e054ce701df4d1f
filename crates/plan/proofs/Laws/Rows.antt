-- Laws: tables and rows: each entry, the length, that equal entries make equal rows, and one more entry stored. Assumes nothing.
use Rattle.std.specs.Prelude.{◌≡◌, Bool, length, set, replicate}
use Rattle.std.proofs.Math.Path.{refl, sym, ap, ap₂}
use Rattle.std.proofs.Common.{◌∙◌, arith, le_of_suc-le-suc, lt_of_lt_of_le}
use Rattle.std.proofs.Math.Bool.{true, false, cond}
use mathlib.Core.List.{List, [], ◌∷◌}
use Prim.Native.Nat.{ℕ, zero, suc, ◌+◌, ◌≤◌, ◌<◌}
use Rattle.std.proofs.Math.Dec.{ltb}
use Rattle.std.proofs.Math.ListN.{get_or, get_or-eq_default}
use borrow.Author.Tests.{ltb-true, ltb-false, lt-ltb, le-ltb}
use Rattle.plan.specs.Lists.{table, row}

module _ {ℓ} {A : Type ℓ} where
  pub length_table : (w : ℕ) (f : ℕ → A) → length (table w f) ≡ w
  unfolding table
  length_table zero f = refl
  length_table (suc w) f = ap suc (length_table w (λ i. f (suc i)))

  pub table_at : (w : ℕ) (f : ℕ → A) (i : ℕ) (z : A) → i < w → get_or (table w f) i z ≡ f i
  unfolding table
  table_at zero f i z h = absurd (omega arith)
  table_at (suc w) f zero z h = refl
  table_at (suc w) f (suc i) z h = table_at w (λ j. f (suc j)) i z (le_of_suc-le-suc h)

  -- a list is the table of its entries
  pub table_all : (xs : List A) (z : A) → table (length xs) (λ i. get_or xs i z) ≡ xs
  unfolding table
  table_all [] z = refl
  table_all (x ∷ xs) z = ap (λ ys. x ∷ ys) (table_all xs z)

  pub table_ext : (w : ℕ) (f g : ℕ → A) → ((i : ℕ) → i < w → f i ≡ g i) → table w f ≡ table w g
  unfolding table
  table_ext zero f g e = refl
  table_ext (suc w) f g e =
      ap₂ (λ x xs. x ∷ xs) (e 0 (omega arith)) (table_ext w (λ i. f (suc i)) (λ i. g (suc i)) (λ i h. e (suc i) (omega arith)))

  pub length_row : (z : A) (w k : ℕ) (f : ℕ → A) → length (row z w k f) ≡ w
  unfolding row
  length_row z w k f = length_table w (λ i. cond (ltb i k) (f i) z)

  pub row_at : (z : A) (w k : ℕ) (f : ℕ → A) (i : ℕ) → k ≤ w → i < k → get_or (row z w k f) i z ≡ f i
  unfolding row
  row_at z w k f i h l = table_at w (λ j. cond (ltb j k) (f j) z) i z (lt_of_lt_of_le l h) ∙ rw (lt-ltb i k l)

  -- an unused entry, or one past the end
  pub row_unused : (z : A) (w k : ℕ) (f : ℕ → A) (i : ℕ) → k ≤ i → get_or (row z w k f) i z ≡ z
  unfolding row
  row_unused z w k f i h = go (ltb i w) refl
    where
      go : (b : Bool) → ltb i w ≡ b → get_or (row z w k f) i z ≡ z
      go true e = table_at w (λ j. cond (ltb j k) (f j) z) i z (ltb-true i w e) ∙ rw (le-ltb i k h)
      go false e = get_or-eq_default (row z w k f) z (rw (length_row z w k f) (ltb-false i w e))

  pub row_ext : (z : A) (w k : ℕ) (f g : ℕ → A) → ((i : ℕ) → i < k → f i ≡ g i) → row z w k f ≡ row z w k g
  unfolding row
  row_ext z w k f g e = table_ext w _ _ (λ i h. go i (ltb i k) refl)
    where
      go : (i : ℕ) (b : Bool) → ltb i k ≡ b → cond b (f i) z ≡ cond b (g i) z
      go i true h = e i (ltb-true i k h)
      go i false h = refl

  -- a list of full width whose unused entries are z is the row of its entries
  pub row_all : (z : A) (w k : ℕ) (xs : List A) → length xs ≡ w → ((i : ℕ) → k ≤ i → get_or xs i z ≡ z) → row z w k (λ i. get_or xs i z) ≡ xs
  unfolding row
  row_all z w k xs l u = table_ext w _ _ (λ i h. go i (ltb i k) refl) ∙ rw (← l) (table_all xs z)
    where
      go : (i : ℕ) (b : Bool) → ltb i k ≡ b → cond b (get_or xs i z) z ≡ get_or xs i z
      go i true h = refl
      go i false h = sym (u i (ltb-false i k h))

  -- ---- filling an array

  -- a list of one value is the table of that value
  table_same : (w : ℕ) (z : A) → replicate w z ≡ table w (λ i. z)
  unfolding table
  table_same zero z = refl
  table_same (suc w) z = ap (λ xs. z ∷ xs) (table_same w z)

  -- a table of which entry i is stored anew
  table_set : (w i : ℕ) (f g : ℕ → A) → ((j : ℕ) → (j ≡ i → ⊥) → f j ≡ g j) → set (table w f) i (g i) ≡ table w g
  unfolding table
  table_set zero i f g e = refl
  table_set (suc w) zero f g e = ap (λ xs. g 0 ∷ xs) (table_ext w _ _ (λ j h. e (suc j) (λ q. omega arith)))
  table_set (suc w) (suc i) f g e =
      ap₂ (λ x xs. x ∷ xs) (e 0 (λ q. omega arith))
      (table_set w i (λ j. f (suc j)) (λ j. g (suc j)) (λ j n. e (suc j) (λ q. n (omega arith))))

  -- the array of zeros is the row with no entry used
  pub row_none : (z : A) (w : ℕ) (f : ℕ → A) → replicate w z ≡ row z w 0 f
  unfolding row
  row_none z w f = table_same w z ∙ table_ext w _ _ (λ i h. rw (le-ltb i 0 (omega arith)))

  -- one more entry is stored
  pub row_more : (z : A) (w i : ℕ) (f : ℕ → A) → set (row z w i f) i (f i) ≡ row z w (i + 1) f
  unfolding row
  row_more z w i f = rw (lt-ltb i (i + 1) (omega arith)) at (table_set w i _ (λ j. cond (ltb j (i + 1)) (f j) z) other)
    where
      other : (j : ℕ) → (j ≡ i → ⊥) → cond (ltb j i) (f j) z ≡ cond (ltb j (i + 1)) (f j) z
      other j n = ap (λ (b : Bool). cond b (f j) z) (go (ltb j i) refl)
        where
          go : (b : Bool) → ltb j i ≡ b → b ≡ ltb j (i + 1)
          go true e = sym (lt-ltb j (i + 1) (omega (arith, ltb-true j i e)))
          go false e = sym (le-ltb j (i + 1) (omega (arith, ltb-false j i e)))
