-- Laws: a walk over a mask whose step at j stores entry j, by what the entry holds, and keeps the others: what each entry holds behind it.
-- Assumes nothing.
use Rattle.std.specs.Prelude.{◌≡◌, refl, Bool, true, false, cond, List, length, get_or}
use Rattle.std.proofs.Common.{sym, ap, ◌∙◌, eq-or-lt_of_le, le_of_suc-le-suc, arith}
use Rattle.std.proofs.Math.Logic.{⊎_elim}
use Prim.Native.Nat.{ℕ, zero, suc, ◌≤◌, ◌<◌}
use Rattle.bitset.specs.Mask.{has, mask_of, each}
use Rattle.bitset.proofs.Laws.Visiting.{each_ind, each_mask}
use Rattle.plan.specs.Lists.{row}
use Rattle.plan.proofs.Laws.Rows.{row_ext, row_all}

-- `entry s i` is what s holds at i, `stored j` what the step at j makes of that; `Full s` says that s has w entries
pub record Stores {S C : Type 0} (step : ℕ → S → S) (entry : S → ℕ → C) (stored : ℕ → C → C) (Full : S → Type 0) (w : ℕ) : Type 0 where
  pub kept : (j : ℕ) (s : S) → Full s → Full (step j s)
  pub own : (j : ℕ) (s : S) → Full s → j < w → entry (step j s) j ≡ stored j (entry s j)
  pub others : (j i : ℕ) (s : S) → (i ≡ j → ⊥) → entry (step j s) i ≡ entry s i

-- from s on, those below n that pass the test have been visited
pub record Visited {S C : Type 0} (entry : S → ℕ → C) (stored : ℕ → C → C) (Full : S → Type 0) (p : ℕ → Bool) (n : ℕ) (s after : S) : Type 0 where
  pub full : Full after
  pub at : (i : ℕ) → i < n → entry after i ≡ cond (p i) (stored i (entry s i)) (entry s i)
  pub past : (i : ℕ) → n ≤ i → entry after i ≡ entry s i

module _ {S C : Type 0} {step : ℕ → S → S} {entry : S → ℕ → C} {stored : ℕ → C → C} {Full : S → Type 0} {w : ℕ}
    (stores : Stores step entry stored Full w) (p : ℕ → Bool) (s : S) (full : Full s) where
  full_on : (n : ℕ) → Full (each step p n s)
  full_on n = each_ind step Full p n s (λ j u l e h. stores.kept j u h) full

  past_end : (n i : ℕ) → n ≤ i → entry (each step p n s) i ≡ entry s i
  past_end n i h = each_ind step (λ u. entry u i ≡ entry s i) p n s (λ j u l e k. stores.others j i u (λ q. omega arith) ∙ k) refl

  below_end : (n i : ℕ) → n ≤ w → i < n → entry (each step p n s) i ≡ cond (p i) (stored i (entry s i)) (entry s i)
  unfolding each
  below_end zero i l h = absurd (omega arith)
  below_end (suc n) i l h =
      ⊎_elim (λ (e : i ≡ n). rw e (here (p n) (past_end n n (omega arith)) (full_on n)))
      (λ (b : i < n). below (p n) b ∙ below_end n i (omega arith) b) (eq-or-lt_of_le (le_of_suc-le-suc h))
    where
      before : S
      before = each step p n s

      here : (b : Bool) → entry before n ≡ entry s n → Full before
          → entry (cond b (step n before) before) n ≡ cond b (stored n (entry s n)) (entry s n)
      here true e k = stores.own n before k (omega arith) ∙ ap (stored n) e
      here false e k = e

      below : (b : Bool) → i < n → entry (cond b (step n before) before) i ≡ entry before i
      below true k = stores.others n i before (λ e. omega arith)
      below false k = refl

  -- by the mask of the test, at a width v that holds it
  pub visited : (n v : ℕ) → n ≤ v → n ≤ w → Visited entry stored Full p n s (each step (has (mask_of p n)) v s)
  visited n v few wide =
      rw (each_mask step p n v s few)
      (record { full = full_on n; at = λ i h. below_end n i wide h; past = λ i h. past_end n i h })

-- a list of full width whose unused entries are z is a row by its entries
pub row_is : {A : Type 0} (z : A) (w n : ℕ) (f : ℕ → A) (xs : List A) → length xs ≡ w → ((i : ℕ) → n ≤ i → get_or xs i z ≡ z)
    → ((i : ℕ) → i < n → get_or xs i z ≡ f i) → xs ≡ row z w n f
row_is z w n f xs full unused used = sym (row_all z w n xs full unused) ∙ row_ext z w n (λ i. get_or xs i z) f used
