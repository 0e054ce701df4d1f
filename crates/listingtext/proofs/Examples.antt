-- Worked examples, computed by the checker: texts worked out by hand, and what the definitions say of them.
use Rattle.std.specs.Prelude.{◌≡◌, refl, [], ◌∷◌, ◌++◌, pos, negsuc, neg_ℤ}
use Rattle.words.specs.Word.{number_at, signed_of, unsigned_of, bytes_of, word_of, flat}
use Rattle.plan.specs.Lists.{joined}
use Rattle.listingtext.specs.Decimal.{digits_in, decimal, signed_decimal}
use Rattle.listingtext.specs.Lines.{event_line, end_line, refusal_line, line_at, lines_of}

-- 0 is "0"; 9, 10 and 1203
nought : decimal 0 ≡ 48 ∷ []
unfolding decimal digits_in
nought = refl

nine : decimal 9 ≡ 57 ∷ []
unfolding decimal digits_in
nine = refl

ten : decimal 10 ≡ 49 ∷ 48 ∷ []
unfolding decimal digits_in
ten = refl

four_digits : decimal 1203 ≡ 49 ∷ 50 ∷ 48 ∷ 51 ∷ []
unfolding decimal digits_in
four_digits = refl

-- -1 and -100
minus_one : signed_decimal (negsuc 0) ≡ 45 ∷ 49 ∷ []
unfolding signed_decimal decimal digits_in
minus_one = refl

minus_hundred : signed_decimal (neg_ℤ (pos 100)) ≡ 45 ∷ 49 ∷ 48 ∷ 48 ∷ []
unfolding signed_decimal decimal digits_in
minus_hundred = refl

-- the cup of document 01: "4 0 12", "6 2 -3" from the bytes of two events, and "end 1 6 2 3"
cup : lines_of (flat (4 ∷ 0 ∷ 12 ∷ 6 ∷ 2 ∷ word_of (neg_ℤ (pos 3)) ∷ [])) 2 ++ end_line 1 6 2 3
    ≡ 52 ∷ 32 ∷ 48 ∷ 32 ∷ 49 ∷ 50 ∷ 10 ∷ 54 ∷ 32 ∷ 50 ∷ 32 ∷ 45 ∷ 51 ∷ 10
    ∷ 101 ∷ 110 ∷ 100 ∷ 32 ∷ 49 ∷ 32 ∷ 54 ∷ 32 ∷ 50 ∷ 32 ∷ 51 ∷ 10 ∷ []
unfolding lines_of joined line_at event_line end_line signed_decimal decimal digits_in flat bytes_of number_at signed_of unsigned_of
cup = refl

-- "refused 8 255"
refused : refusal_line 8 255 ≡ 114 ∷ 101 ∷ 102 ∷ 117 ∷ 115 ∷ 101 ∷ 100 ∷ 32 ∷ 56 ∷ 32 ∷ 50 ∷ 53 ∷ 53 ∷ 10 ∷ []
unfolding refusal_line decimal digits_in
refused = refl
