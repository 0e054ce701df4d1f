-- Model of the code: its numbers, of which each entry is compared with 0; that this is the definitions' test. Assumes nothing.
use Rattle.std.specs.Prelude.{◌≡◌, Bool, List, [], ◌∷◌, ℕ, ℤ, pos, negsuc, drop, eqb, nat_eq}
use Rattle.std.specs.Ordering.{int_eq}
use Rattle.std.proofs.Common.{refl, arith}
use Rattle.std.proofs.lemmas.Bool.Decides.{nat_tests}
use Rattle.integers.specs.Parts.{∣◌∣}
use Rattle.plan.specs.Lists.{all}
use Rattle.plan.specs.Unused.{nats_zero_from, ints_zero_from}

same_zero : (z : ℤ) → int_eq z (pos 0) ≡ eqb ∣ z ∣ 0
same_zero (pos n) = grind (arith, nat_tests)
same_zero (negsuc n) = grind (arith, nat_tests)

all_alike : {A : Type 0} (f g : A → Bool) → ((x : A) → f x ≡ g x) → (xs : List A) → all f xs ≡ all g xs
unfolding all
all_alike f g same [] = refl
all_alike f g same (x ∷ xs) = rw (same x, all_alike f g same xs)

pub ints_each : (count : ℕ) (xs : List ℤ) → all (λ x. int_eq x (pos 0)) (drop count xs) ≡ ints_zero_from count xs
unfolding ints_zero_from
ints_each n xs = all_alike (λ x. int_eq x (pos 0)) (λ z. eqb ∣ z ∣ 0) same_zero (drop n xs)

pub nats_each : (count : ℕ) (xs : List ℕ) → all (λ x. nat_eq x 0) (drop count xs) ≡ nats_zero_from count xs
unfolding nats_zero_from
nats_each n xs = refl
