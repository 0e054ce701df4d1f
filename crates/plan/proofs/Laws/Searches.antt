-- Laws: the tests over indexes and lists, and the first index that passes. Assumes nothing.
use Rattle.std.specs.Prelude.{◌≡◌, refl, Bool, true, false, cond, ◌||◌, ◌↔◌, List, [], ◌∷◌, ℕ, zero, suc, ◌+◌, ◌≤◌, ◌<◌, ltb, eqb, get_or, drop}
use Rattle.std.proofs.Common.{sym, ◌∙◌, subst, true≢false, arith, le_of_suc-le-suc, ltb-true, ltb-false, eqb-true}
use Rattle.std.proofs.lemmas.Bool.{false≢true, eqb-false}
use Rattle.std.proofs.Math.Bool.{and-eq-true_iff}
use Rattle.plan.specs.Lists.{every, some, all, first_from}

-- ---- a disjunction that does not hold
pub or-false : (a b : Bool) → (a || b) ≡ false → (a ≡ false) × (b ≡ false)
or-false true b e = absurd (true≢false e)
or-false false b e = (refl, e)

-- a number below the next is that number or below it
pub below_suc : {n i : ℕ} (P : ℕ → Type 0) → i < suc n → (i < n → P i) → P n → P i
below_suc {n} {i} P h below here = go (eqb i n) refl
  where
    go : (b : Bool) → eqb i n ≡ b → P i
    go true e = subst P (sym (eqb-true i n e)) here
    go false e = below (omega (arith, eqb-false i n e))

-- ---- each index below n
pub every_true : (test : ℕ → Bool) (n : ℕ) → (every test n ≡ true) ↔ ((i : ℕ) → i < n → test i ≡ true)
unfolding every
every_true test zero = (λ e i h. absurd (omega arith), λ f. refl)
every_true test (suc n) =
    let ih = every_true test n in (
      λ e i h. let b = (and-eq-true_iff (every test n) (test n)).0 e in below_suc (λ j. test j ≡ true) h (ih.0 b.0 i) b.1,
      λ f. (and-eq-true_iff (every test n) (test n)).1 (ih.1 (λ i h. f i (omega arith)), f n (omega arith)),
    )

-- ---- some index below n
pub some_found : (test : ℕ → Bool) (n : ℕ) → some test n ≡ true → (i : ℕ) × (i < n) × (test i ≡ true)
unfolding some
some_found test zero = λ e. absurd (false≢true e)
some_found test (suc n) = go (some test n) (some_found test n)
  where
    go : (b : Bool) → (b ≡ true → (i : ℕ) × (i < n) × (test i ≡ true)) → (b || test n) ≡ true → (i : ℕ) × (i < suc n) × (test i ≡ true)
    go true ih e = let f = ih refl in (f.0, omega (arith, f.1), f.2)
    go false ih e = (n, omega arith, e)

pub some_here : (test : ℕ → Bool) (n i : ℕ) → i < n → test i ≡ true → some test n ≡ true
unfolding some
some_here test zero i h e = absurd (omega arith)
some_here test (suc n) i h e =
    below_suc (λ j. test j ≡ true → (some test n || test n) ≡ true) h (λ l t. rw (some_here test n i l t)) (λ t. or_right (some test n) t) e
  where
    or_right : (a : Bool) {b : Bool} → b ≡ true → (a || b) ≡ true
    or_right true e = refl
    or_right false e = e

-- ---- each entry of a list from index k on, where what stands past the end passes
pub all_from {ℓ} : {A : Type ℓ} (test : A → Bool) (z : A) → test z ≡ true → (k : ℕ) (xs : List A)
    → (all test (drop k xs) ≡ true) ↔ ((i : ℕ) → k ≤ i → test (get_or xs i z) ≡ true)
unfolding all
all_from test z t zero [] = (λ e i h. t, λ f. refl)
all_from test z t (suc k) [] = (λ e i h. t, λ f. refl)
all_from test z t zero (x ∷ xs) =
    let ih = all_from test z t zero xs in let both = and-eq-true_iff (test x) (all test xs) in
    (λ e i h. entry (both.0 e).0 (ih.0 (both.0 e).1) i, λ f. both.1 (f 0 (omega arith), ih.1 (λ i h. f (suc i) (omega arith))))
  where
    entry : test x ≡ true → ((i : ℕ) → 0 ≤ i → test (get_or xs i z) ≡ true) → (i : ℕ) → test (get_or (x ∷ xs) i z) ≡ true
    entry here rest zero = here
    entry here rest (suc i) = rest i (omega arith)
all_from test z t (suc k) (x ∷ xs) =
    let ih = all_from test z t k xs in (λ e i h. later (ih.0 e) i h, λ f. ih.1 (λ i h. f (suc i) (omega arith)))
  where
    later : ((i : ℕ) → k ≤ i → test (get_or xs i z) ≡ true) → (i : ℕ) → suc k ≤ i → test (get_or (x ∷ xs) i z) ≡ true
    later f zero h = absurd (omega arith)
    later f (suc i) h = f i (le_of_suc-le-suc h)

-- ---- the first index that passes
-- f is the first of the n numbers from i on that passes, or the number behind them
pub record First (test : ℕ → Bool) (i n f : ℕ) : Type 0 where
  pub from : i ≤ f
  pub most : f ≤ i + n
  pub earlier : (j : ℕ) → i ≤ j → j < f → test j ≡ false
  pub passes : f < i + n → test f ≡ true

pub first : (test : ℕ → Bool) (i n : ℕ) → First test i n (first_from test i n)
unfolding first_from
first test i zero = record { from = omega arith; most = omega arith; earlier = λ j h k. absurd (omega arith); passes = λ h. absurd (omega arith) }
first test i (suc n) = go (test i) refl (first test (i + 1) n)
  where
    f : ℕ
    f = first_from test (i + 1) n

    go : (b : Bool) → test i ≡ b → First test (i + 1) n f → First test i (suc n) (cond b i f)
    go true e r = record { from = omega arith; most = omega arith; earlier = λ j h k. absurd (omega arith); passes = λ h. e }
    go false e r = record { from = omega (arith, r.from); most = omega (arith, r.most); earlier = before; passes = λ h. r.passes (omega arith) }
      where
        before : (j : ℕ) → i ≤ j → j < f → test j ≡ false
        before j h k = at (eqb j i) refl
          where
            at : (c : Bool) → eqb j i ≡ c → test j ≡ false
            at true d = rw (eqb-true j i d) e
            at false d = r.earlier j (omega (arith, eqb-false j i d)) k

-- these determine it
pub first_unique : (test : ℕ → Bool) (i n f : ℕ) → First test i n f → f ≡ first_from test i n
first_unique test i n f a = same (first test i n)
  where
    same : {g : ℕ} → First test i n g → f ≡ g
    same {g} b = go (eqb f g) refl
      where
        -- the lower of two would pass and not pass
        lower : {u v : ℕ} → First test i n u → First test i n v → u < v → ⊥
        lower {u} {v} c d h = true≢false (sym (c.passes (omega (arith, d.most))) ∙ d.earlier u c.from h)

        go : (t : Bool) → eqb f g ≡ t → f ≡ g
        go true e = eqb-true f g e
        go false e = absurd (apart (ltb f g) refl)
          where
            apart : (t : Bool) → ltb f g ≡ t → ⊥
            apart true l = lower a b (ltb-true f g l)
            apart false l = lower b a (omega (arith, ltb-false f g l, eqb-false f g e))

pub first_ext : (f g : ℕ → Bool) (i n : ℕ) → ((j : ℕ) → j < i + n → f j ≡ g j) → first_from f i n ≡ first_from g i n
unfolding first_from
first_ext f g i zero e = refl
first_ext f g i (suc n) e = rw (e i (omega arith), first_ext f g (i + 1) n (λ j h. e j (omega arith)))
