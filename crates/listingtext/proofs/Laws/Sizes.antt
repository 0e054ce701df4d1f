-- Laws: how long the lines are at most, from the digits of their numbers. Assumes nothing.
use Rattle.std.specs.Prelude.{List, [], ◌∷◌, ◌++◌, ℕ, zero, suc, ◌+◌, ◌*◌, ◌^◌, ◌≤◌, ◌<◌, ℤ, pos, negsuc, nat_abs, length}
use Rattle.std.proofs.Common.{arith, length-append}
use Rattle.std.specs.Int.Signed.{mag}
use Rattle.words.specs.Word.{Bytes, word, signed_word}
use Rattle.words.proofs.Laws.Reading.{number_lt}
use Rattle.words.proofs.Laws.Signs.{signed_mag}
use Rattle.plan.specs.Lists.{joined}
use Rattle.listingtext.specs.Decimal.{decimal, signed_decimal}
use Rattle.listingtext.specs.Lines.{space, newline, field, end_word, refused_word, event_line, end_line, refusal_line, line_at, lines_of}
use Rattle.listingtext.proofs.Laws.Decimals.{length-decimal}

-- a number of at most suc k digits and what ends it
length-field : (k n end : ℕ) → n < 10 ^ suc k → length (field (decimal n) end) ≤ k + 2
length-field k n end h = omega (arith, length-append (decimal n) (end ∷ []), length-decimal k n h)

-- the same with a sign
length_signed_field : (k : ℕ) (z : ℤ) (end : ℕ) → nat_abs z < 10 ^ suc k → length (field (signed_decimal z) end) ≤ k + 3
unfolding signed_decimal
length_signed_field k (pos n) end h = omega (arith, length-field k n end h)
length_signed_field k (negsuc n) end h = omega (arith, length-field k (suc n) end h)

-- tick, source and value of at most suc a, suc b and suc c digits
pub event-most : (a b c : ℕ) (tick source : ℕ) (value : ℤ) → tick < 10 ^ suc a → source < 10 ^ suc b → nat_abs value < 10 ^ suc c
    → length (event_line tick source value) ≤ a + b + c + 7
unfolding event_line
event-most a b c tick source value t s v =
    let one = field (decimal tick) space in
    let two = field (decimal source) space in
    let three = field (signed_decimal value) newline in
    omega (
      arith,
      length-append (one ++ two) three,
      length-append one two,
      length-field a tick space t,
      length-field b source space s,
      length_signed_field c value newline v,
    )

-- The lines of events whose sources have two digits at most: 26 characters each. Tick and value have ten, whatever the bytes.
pub lines_most : {bytes : List ℕ} → Bytes bytes → (k : ℕ) → ((i : ℕ) → i < k → word bytes (12 * i + 4) < 10 ^ 2)
    → length (lines_of bytes k) ≤ 26 * k
unfolding lines_of joined line_at
lines_most {bytes} b zero s = omega arith
lines_most {bytes} b (suc k) s =
    let tick = number_lt 4 (12 * k) b in
    let value = signed_mag 4 (omega arith) (word bytes (12 * k + 8)) (number_lt 4 (12 * k + 8) b) in
    let line =
    event-most 9 1 9 (word bytes (12 * k)) (word bytes (12 * k + 4)) (signed_word bytes (12 * k + 8)) (omega arith) (s k (omega arith))
    (size (signed_word bytes (12 * k + 8)) value) in
    omega (arith, lines_most b k (λ i h. s i (omega arith)), length-append (lines_of bytes k) (line_at bytes k), line)
  where
    size : (z : ℤ) → mag z < 2 ^ 31 → nat_abs z < 10 ^ 10
    size (pos n) h = omega arith
    size (negsuc n) h = omega arith

-- "end", a status of one digit, clock and instants of ten, updates of eleven
pub end-most : (status clock instants updates : ℕ) → status < 10 ^ 1 → clock < 10 ^ 10 → instants < 10 ^ 10 → updates < 10 ^ 11
    → length (end_line status clock instants updates) ≤ 40
unfolding end_line
end-most status clock instants updates s c i u =
    let one = field (decimal status) space in
    let two = field (decimal clock) space in
    let three = field (decimal instants) space in
    omega (
      arith,
      length-append (((end_word ++ one) ++ two) ++ three) (field (decimal updates) newline),
      length-append ((end_word ++ one) ++ two) three,
      length-append (end_word ++ one) two,
      length-append end_word one,
      length-field 0 status space s,
      length-field 9 clock space c,
      length-field 9 instants space i,
      length-field 10 updates newline u,
    )

-- "refused", a number of one digit, an entry of three
pub refusal_most : (number entry : ℕ) → number < 10 ^ 1 → entry < 10 ^ 3 → length (refusal_line number entry) ≤ 14
unfolding refusal_line
refusal_most number entry n e =
    let one = field (decimal number) space in
    omega (
      arith,
      length-append (refused_word ++ one) (field (decimal entry) newline),
      length-append refused_word one,
      length-field 0 number space n,
      length-field 2 entry newline e,
    )
