-- Laws: what a stage of the refusals finds: nothing where all its entries keep its rule, else the lowest that breaks it. Assumes nothing.
use Rattle.std.specs.Prelude.{◌≡◌, Bool, ◌&&◌, ltb, eqb, Ok, Err}
use Rattle.std.proofs.Math.Path.{refl}
use Rattle.std.proofs.Math.Bool.{true, false, false≢true}
use Prim.Native.Nat.{ℕ, zero, suc, ◌+◌, ◌≤◌, ◌<◌}
use native.Mathlib.Omega.{arith}
use borrow.Author.Tests.{ltb-true, ltb-false, eqb-true, eq-eqb, ne_eqb}
use Rattle.std.proofs.Common.{sym}
use Rattle.plan.specs.Refusals.{refusal_number, refusal_entry, Finding, number_of, entry_of, is_clean, unless, or_else, first_finding}
use Rattle.plan.specs.declared.Refusal.{Refusal}
use Rattle.plan.specs.declared.Refusal.TheVariants.{Short, Offsets, Sizes, Horizon, Integrator, Input, Node, Link, Command}
use Rattle.plan.specs.declared.Refusal.TheVariants.{Unsound, Budget, RunBuffer, WriteBuffer, IntegratorNumber}
use Rattle.plan.proofs.Laws.TestMeanings.{Means, both}

-- the finding f of the entries from i up to j, by the rule R of refusal number k
pub data Judged (R : ℕ → Type 0) (k i j : ℕ) (f : Finding) : Type 0 where
  clean : number_of f ≡ 0 → entry_of f ≡ 0 → ((e : ℕ) → i ≤ e → e < j → R e) → Judged R k i j f
  faulty : number_of f ≡ k → i ≤ entry_of f → entry_of f < j → ((e : ℕ) → i ≤ e → e < entry_of f → R e) → (R (entry_of f) → ⊥)
      → Judged R k i j f

-- a refusal has a number, 1 or more; so a finding is clean just where its number is 0
pub numbered : (r : Refusal) → 0 < refusal_number r
unfolding refusal_number
numbered Short = omega arith
numbered Offsets = omega arith
numbered Sizes = omega arith
numbered Horizon = omega arith
numbered (Integrator i) = omega arith
numbered (Input j) = omega arith
numbered (Node j) = omega arith
numbered (Link e) = omega arith
numbered (Command e) = omega arith
numbered Unsound = omega arith
numbered Budget = omega arith
numbered RunBuffer = omega arith
numbered WriteBuffer = omega arith
numbered IntegratorNumber = omega arith

pub clean_number : (f : Finding) → is_clean f ≡ eqb (number_of f) 0
unfolding is_clean number_of
clean_number (Ok u) = refl
clean_number (Err r) = sym (ne_eqb (refusal_number r) 0 (λ z. omega (arith, numbered r)))

-- the first finding, or else the next
pub first_clean : (f g : Finding) → number_of f ≡ 0 → or_else f g ≡ g
unfolding or_else number_of
first_clean (Ok u) g n = refl
first_clean (Err r) g n = absurd (omega (arith, numbered r))

pub first_faulty : (f g : Finding) (k : ℕ) → 0 < k → number_of f ≡ k → or_else f g ≡ f
unfolding or_else number_of
first_faulty (Ok u) g k h n = absurd (omega arith)
first_faulty (Err r) g k h n = refl

pub none-next : (f : Finding) → or_else f (Ok tt) ≡ f
unfolding or_else
none-next (Ok u) = refl
none-next (Err r) = refl

module _ {R : ℕ → Type 0} where
  -- what holds of the entries from i up to j and from j up to l holds from i up to l
  ranges : (i j l : ℕ) → ((e : ℕ) → i ≤ e → e < j → R e) → ((e : ℕ) → j ≤ e → e < l → R e) → (e : ℕ) → i ≤ e → e < l → R e
  ranges i j l r s e a b = go (ltb e j) refl
    where
      go : (t : Bool) → ltb e j ≡ t → R e
      go true q = r e a (ltb-true e j q)
      go false q = s e (ltb-false e j q) b

  module _ (k : ℕ) (0<k : 0 < k) where
    -- one entry
    pub judged_one : (e : ℕ) (kept : Bool) (f : Refusal) → Means kept (R e) → refusal_number f ≡ k → refusal_entry f ≡ e
        → Judged R k e (suc e) (unless kept f)
    unfolding number_of entry_of
    judged_one e true f m n q = clean refl refl (λ i a b. let same : i ≡ e = omega arith in rw same (m.0 refl))
    judged_one e false f m n q =
        faulty n (omega arith) (omega arith) (λ i a b. absurd (omega arith)) (λ r. false≢true (m.1 (rw q at r)))

    -- entries up to j, and those behind them
    judged_two : (i j l : ℕ) (f g : Finding) → i ≤ j → j ≤ l → Judged R k i j f → Judged R k j l g → Judged R k i l (or_else f g)
    judged_two i j l f g a b (clean n z r) (clean n' z' r') = rw (first_clean f g n) (clean n' z' (ranges i j l r r'))
    judged_two i j l f g a b (clean n z r) (faulty n' c d r' x) =
        rw (first_clean f g n) (faulty n' (omega arith) d (ranges i j (entry_of g) r r') x)
    judged_two i j l f g a b (faulty n c d r x) s = rw (first_faulty f g k 0<k n) (faulty n c (omega arith) r x)

    -- entries each with its test, whose meaning is the rule, and with a refusal of this number and of the entry
    module _ (test : ℕ → Bool) (fault : ℕ → Refusal) (means : (e : ℕ) → Means (test e) (R e))
        (number : (e : ℕ) → refusal_number (fault e) ≡ k) (entry : (e : ℕ) → refusal_entry (fault e) ≡ e) where
      judged_from : (i left : ℕ) → Judged R k i (i + left) (first_finding (λ e. unless (test e) (fault e)) i left)
      unfolding first_finding number_of entry_of
      judged_from i zero = clean refl refl (λ e a b. absurd (omega arith))
      judged_from i (suc left) =
          let next : i + 1 ≡ suc i = omega arith in let end : i + suc left ≡ suc i + left = omega arith in
          let here = judged_one i (test i) (fault i) (means i) (number i) (entry i) in
          rw (next, end) (judged_two i (suc i) (suc i + left) _ _ (omega arith) (omega arith) here (judged_from (suc i) left))

      pub judged_all : (count : ℕ) → Judged R k 0 count (first_finding (λ e. unless (test e) (fault e)) 0 count)
      judged_all count = let end : 0 + count ≡ count = omega arith in rw end at (judged_from 0 count)

    -- a stage is clean just where all its entries keep the rule
    pub clean_means : (count : ℕ) (f : Finding) → Judged R k 0 count f → Means (is_clean f) ((e : ℕ) → e < count → R e)
    clean_means count f j = rw (clean_number f) (go j)
      where
        go : Judged R k 0 count f → Means (eqb (number_of f) 0) ((e : ℕ) → e < count → R e)
        go (clean n z r) = (λ t e h. r e (omega arith) h, λ h. eq-eqb (number_of f) 0 n)
        go (faulty n c d r x) = (λ t. absurd (omega (arith, eqb-true (number_of f) 0 t)), λ h. absurd (x (h (entry_of f) d)))

-- one stage or else the next
pub clean_both : {P Q : Type 0} (f g : Finding) → Means (is_clean f) P → Means (is_clean g) Q → Means (is_clean (or_else f g)) (P × Q)
unfolding or_else is_clean
clean_both f g m l = rw (go f) (both m l)
  where
    go : (f : Finding) → is_clean (or_else f g) ≡ (is_clean f && is_clean g)
    go (Ok u) = refl
    go (Err r) = refl
