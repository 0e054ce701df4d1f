-- Laws: the texts of numbers and lines are UTF-8, all of ASCII, so that each can be handed on as a string. Assumes nothing.
use Rattle.std.specs.Prelude.{List, [], ◌∷◌, ◌++◌, ℕ, zero, suc, ◌%◌, ◌<◌, ℤ, pos, negsuc, slice_index, IsUtf8}
use Rattle.std.proofs.Common.{arith}
use Rattle.std.proofs.lemmas.Str.{IsUtf8-nil, IsUtf8-append, IsUtf8-from_ascii}
use Rattle.plan.specs.Lists.{joined}
use Rattle.listingtext.specs.Decimal.{digit, minus, decimal, signed_decimal}
use Rattle.listingtext.specs.Lines.{space, newline, field, end_word, refused_word, event_line, end_line, refusal_line, line_at, lines_of}
use Rattle.listingtext.proofs.Laws.Decimals.{along_digits}

-- one character of ASCII, and one in front of more
one_utf8 : (c : ℕ) → c < 128 → IsUtf8 (c ∷ [])
one_utf8 c h = IsUtf8-from_ascii (c ∷ []) ascii
  where
    ascii : (i : ℕ) → slice_index (c ∷ []) i < 128
    ascii zero = h
    ascii (suc i) = omega arith

first_utf8 : (c : ℕ) {rest : List ℕ} → c < 128 → IsUtf8 rest → IsUtf8 (c ∷ rest)
first_utf8 c {rest} h r = IsUtf8-append (c ∷ []) rest (one_utf8 c h) r

pub decimal_utf8 : (n : ℕ) → IsUtf8 (decimal n)
decimal_utf8 =
    along_digits (λ _ text. IsUtf8 text) (λ n h. one_utf8 (digit n) (omega (arith, h)))
    (λ n front h ih. IsUtf8-append front (digit (n % 10) ∷ []) ih (one_utf8 (digit (n % 10)) (omega arith)))

pub signed_utf8 : (z : ℤ) → IsUtf8 (signed_decimal z)
unfolding signed_decimal
signed_utf8 (pos n) = decimal_utf8 n
signed_utf8 (negsuc n) = first_utf8 minus (omega arith) (decimal_utf8 (suc n))

-- a part of a line behind those before it
behind : (front part : List ℕ) (end : ℕ) → end < 128 → IsUtf8 front → IsUtf8 part → IsUtf8 (front ++ field part end)
behind front part end h f p = IsUtf8-append front (field part end) f (IsUtf8-append part (end ∷ []) p (one_utf8 end h))

pub event_utf8 : (tick source : ℕ) (value : ℤ) → IsUtf8 (event_line tick source value)
unfolding event_line
event_utf8 tick source value =
    let one = behind [] (decimal tick) space (omega arith) IsUtf8-nil (decimal_utf8 tick) in
    let two = behind (field (decimal tick) space) (decimal source) space (omega arith) one (decimal_utf8 source) in
    behind (field (decimal tick) space ++ field (decimal source) space) (signed_decimal value) newline (omega arith) two (signed_utf8 value)

pub lines_utf8 : (bytes : List ℕ) (count : ℕ) → IsUtf8 (lines_of bytes count)
unfolding lines_of joined line_at
lines_utf8 bytes zero = IsUtf8-nil
lines_utf8 bytes (suc count) = IsUtf8-append (lines_of bytes count) (line_at bytes count) (lines_utf8 bytes count) (event_utf8 _ _ _)

-- letters in front, and the space behind them
word_utf8 : IsUtf8 end_word × IsUtf8 refused_word
word_utf8 = (first_utf8 101 (omega arith) (first_utf8 110 (omega arith) ended), first_utf8 114 (omega arith) (first_utf8 101 (omega arith) refused))
  where
    ended : IsUtf8 (100 ∷ space ∷ [])
    ended = first_utf8 100 (omega arith) (one_utf8 space (omega arith))

    refused : IsUtf8 (102 ∷ 117 ∷ 115 ∷ 101 ∷ 100 ∷ space ∷ [])
    refused = first_utf8 102 (omega arith) (first_utf8 117 (omega arith) (first_utf8 115 (omega arith) (first_utf8 101 (omega arith) ended)))

pub end_utf8 : (status clock instants updates : ℕ) → IsUtf8 (end_line status clock instants updates)
unfolding end_line
end_utf8 status clock instants updates =
    let one = behind end_word (decimal status) space (omega arith) word_utf8.0 (decimal_utf8 status) in
    let two = behind (end_word ++ field (decimal status) space) (decimal clock) space (omega arith) one (decimal_utf8 clock) in
    let three =
    behind ((end_word ++ field (decimal status) space) ++ field (decimal clock) space) (decimal instants) space (omega arith) two (decimal_utf8 instants)
    in
    behind _ (decimal updates) newline (omega arith) three (decimal_utf8 updates)

pub refusal_utf8 : (number entry : ℕ) → IsUtf8 (refusal_line number entry)
unfolding refusal_line
refusal_utf8 number entry =
    let one = behind refused_word (decimal number) space (omega arith) word_utf8.1 (decimal_utf8 number) in
    behind _ (decimal entry) newline (omega arith) one (decimal_utf8 entry)
