-- Laws: checks that are tried one after the other, each taken apart by `?` before the next. Assumes nothing.
use Rattle.std.specs.Prelude.{◌≡◌, refl, false, List, [], ◌∷◌, map, ℕ, suc, Ok, Err}
use Rattle.std.proofs.Common.{sym, ap, ◌∙◌, inl, inr, arith}
use types.Run.{OneOf}
use Rattle.plan.specs.Refusals.{Finding, number_of, is_clean, or_else}
use Rattle.plan.proofs.Laws.Findings.{first_clean}

-- The code has tried the checks before f, and found nothing: what is left, f or else `next`, has the finding of the whole.
module _ {whole f found : Finding} (next : Finding) (left : whole ≡ or_else f next) (result : found ≡ f) where
  -- f finds nothing either
  pub tried : found ≡ Ok tt → whole ≡ next
  unfolding number_of
  tried e = left ∙ first_clean f next (ap number_of (sym result ∙ e))

  -- f has found something
  pub refused : is_clean found ≡ false → found ≡ whole
  unfolding or_else is_clean
  refused k = go f left result k
    where
      go : (g : Finding) → whole ≡ or_else g next → found ≡ g → is_clean found ≡ false → found ≡ whole
      go (Ok u) l r k = cc
      go (Err refusal) l r k = r ∙ sym l

-- where a check has not found nothing
pub not_clean_else : (f : Finding) → (f ≡ Ok tt → ⊥) → is_clean f ≡ false
unfolding is_clean
not_clean_else (Ok u) k = absurd (k refl)
not_clean_else (Err refusal) k = refl

-- two checks that are tried as one
pub or_else_join : (a b c : Finding) → or_else a (or_else b c) ≡ or_else (or_else a b) c
unfolding or_else
or_else_join (Ok u) b c = refl
or_else_join (Err r) b c = refl

-- The same by the number of what was found: it is one of 1 to 14, and that of nothing is 0.
no_key : (k : ℕ) (ks : List ℕ) → OneOf (map suc (k ∷ ks)) 0 → ⊥
no_key k [] e = omega arith
no_key k (j ∷ ks) (inl e) = omega arith
no_key k (j ∷ ks) (inr o) = no_key j ks o

pub not_clean : (f : Finding) → OneOf (1 ∷ 2 ∷ 3 ∷ 4 ∷ 5 ∷ 6 ∷ 7 ∷ 8 ∷ 9 ∷ 10 ∷ 11 ∷ 12 ∷ 13 ∷ 14 ∷ []) (number_of f) → is_clean f ≡ false
unfolding number_of
not_clean f k = not_clean_else f (λ e. no_key 0 (1 ∷ 2 ∷ 3 ∷ 4 ∷ 5 ∷ 6 ∷ 7 ∷ 8 ∷ 9 ∷ 10 ∷ 11 ∷ 12 ∷ 13 ∷ []) (rw e at k))
