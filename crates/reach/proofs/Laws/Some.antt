-- Laws: "some index below n passes": it goes by the test's answers, and is known where the test passes at one index at most. Assumes
-- nothing.
use Rattle.std.specs.Prelude.{◌≡◌, refl, Bool, false, ◌||◌, ℕ, zero, suc, ◌<◌}
use Rattle.std.proofs.Common.{sym, ap, ap₂, ◌∙◌, arith}
use Rattle.std.proofs.Math.Bool.{or_assoc, or_comm}
use Rattle.plan.specs.Lists.{some}
use Rattle.plan.proofs.Laws.Searches.{below_suc}

pub some_ext : (f g : ℕ → Bool) (n : ℕ) → ((i : ℕ) → i < n → f i ≡ g i) → some f n ≡ some g n
unfolding some
some_ext f g zero e = refl
some_ext f g (suc n) e = ap₂ ◌||◌ (some_ext f g n (λ i h. e i (omega arith))) (e n (omega arith))

pub some-none : (f : ℕ → Bool) (n : ℕ) → ((i : ℕ) → i < n → f i ≡ false) → some f n ≡ false
unfolding some
some-none f zero e = refl
some-none f (suc n) e = ap₂ ◌||◌ (some-none f n (λ i h. e i (omega arith))) (e n (omega arith))

or_last : (a b c : Bool) → ((a || c) || b) ≡ ((a || b) || c)
or_last a b c = or_assoc a c b ∙ ap (λ x. a || x) (or_comm c b) ∙ sym (or_assoc a b c)

-- two tests that differ at a alone, where one of them passes also if c
pub some_also : (f g : ℕ → Bool) (c : Bool) (a n : ℕ) → a < n → f a ≡ (g a || c) → ((i : ℕ) → (i ≡ a → ⊥) → f i ≡ g i)
    → some f n ≡ (some g n || c)
unfolding some
some_also f g c a zero h here other = absurd (omega arith)
some_also f g c a (suc n) h here other =
    below_suc (λ x. f x ≡ (g x || c) → ((i : ℕ) → (i ≡ x → ⊥) → f i ≡ g i) → some f (suc n) ≡ (some g (suc n) || c)) h
    (λ l at rest. ap₂ ◌||◌ (some_also f g c a n l at rest) (rest n (λ e. omega arith)) ∙ or_last (some g n) (g n) c)
    (λ at rest. ap₂ ◌||◌ (some_ext f g n (λ i l. rest i (λ e. omega arith))) at ∙ sym (or_assoc (some g n) (g n) c)) here other

-- a alone may pass
pub some_only : (f : ℕ → Bool) (a n : ℕ) → a < n → ((i : ℕ) → (i ≡ a → ⊥) → f i ≡ false) → some f n ≡ f a
some_only f a n h other =
    some_also f (λ _. false) (f a) a n h refl other ∙ ap (λ b. b || f a) (some-none (λ _. false) n (λ i l. refl))
