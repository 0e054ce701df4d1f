-- Laws: entries of which each stands above its predecessor, by a first number, then by a second: an earlier one stands before a later one,
-- and no two are alike. Commands ascend so by tick and input, links by target and source. Assumes nothing.
use Rattle.std.specs.Prelude.{◌≡◌, refl, Bool, true, false, ◌⊎◌, List, ℕ, zero, suc, ◌<◌, ltb}
use Rattle.std.proofs.Common.{sym, inl, inr, arith, ltb-true, ltb-false}
use Rattle.plan.specs.Lists.{nat_at}
use Rattle.plan.specs.Rules.{AscendsAt}
use Rattle.plan.proofs.Laws.Searches.{below_suc}

-- (a, b) stands before (a', b')
abbrev pub Before : (a b a' b' : ℕ) → Type 0
Before a b a' b' = (a < a') ⊎ ((a ≡ a') × (b < b'))

before_trans : {a b a' b' a'' b'' : ℕ} → Before a b a' b' → Before a' b' a'' b'' → Before a b a'' b''
before_trans (inl h) (inl k) = inl (omega arith)
before_trans (inl h) (inr k) = inl (omega arith)
before_trans (inr h) (inl k) = inl (omega arith)
before_trans (inr h) (inr k) = inr (omega arith, omega arith)

module _ (xs ys : List ℕ) (k : ℕ) (ascends : (e : ℕ) → e < k → AscendsAt xs ys e) where
  pub ascending : (d e : ℕ) → d < e → e < k → Before (nat_at xs d) (nat_at ys d) (nat_at xs e) (nat_at ys e)
  ascending d zero h l = absurd (omega arith)
  ascending d (suc e) h l =
      let step = ascends (suc e) l e refl in
      below_suc (λ c. Before (nat_at xs c) (nat_at ys c) (nat_at xs (suc e)) (nat_at ys (suc e))) h
      (λ b. before_trans (ascending d e b (omega arith)) step) step

  pub entry_unique : (d e : ℕ) → d < k → e < k → nat_at xs d ≡ nat_at xs e → nat_at ys d ≡ nat_at ys e → d ≡ e
  entry_unique d e h l a b = go (ltb d e) refl (ltb e d) refl
    where
      apart : {x y x' y' : ℕ} → Before x y x' y' → x ≡ x' → y ≡ y' → ⊥
      apart (inl f) p q = omega arith
      apart (inr f) p q = omega arith

      go : (s : Bool) → ltb d e ≡ s → (t : Bool) → ltb e d ≡ t → d ≡ e
      go true f t g = absurd (apart (ascending d e (ltb-true d e f) l) a b)
      go false f true g = absurd (apart (ascending e d (ltb-true e d g) h) (sym a) (sym b))
      go false f false g = omega (arith, ltb-false d e f, ltb-false e d g)
