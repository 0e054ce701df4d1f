-- Laws: what std prints of a number are its decimal digits. Assumes nothing.
use Rattle.std.specs.Prelude.{◌≡◌, List, [], ◌∷◌, ◌++◌, ℕ, ◌/◌, ◌%◌, ◌^◌, ◌≤◌, ◌<◌, ℤ, pos, negsuc}
use Rattle.std.proofs.Common.{to_z-of_z, sym, ap, arith}
use Rattle.std.specs.Int.Signed.{mag}
use Rattle.std.specs.Fmt.{decimal as printed, signed_decimal as signed_printed}
use Rattle.std.proofs.lemmas.Fmt.{decimal_by_steps}
use Rattle.listingtext.specs.Decimal.{digit, minus, decimal, signed_decimal}
use Rattle.listingtext.proofs.Laws.Decimals.{decimal-one, decimal_more}

pub printed_is : (n : ℕ) → n < 2 ^ 64 → printed n ≡ decimal n
printed_is = decimal_by_steps (λ n text. text ≡ decimal n) (λ n h. sym (decimal-one n h)) more
  where
    more : (n : ℕ) (front : List ℕ) → 10 ≤ n → front ≡ decimal (n / 10) → front ++ (digit (n % 10) ∷ []) ≡ decimal n
    more n front h e = rw e (sym (decimal_more n h))

pub signed_printed_is : (z : ℤ) → mag z < 2 ^ 63 → signed_printed z ≡ signed_decimal z
unfolding signed_decimal
signed_printed_is (pos n) h = printed_is n (omega arith)
signed_printed_is (negsuc n) h = ap (λ (text : List ℕ). minus ∷ text) (printed_is _ (omega arith))

-- what itoa answers of a number
pub ruleset printing = (printed_is, signed_printed_is, to_z-of_z)
