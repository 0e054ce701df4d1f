-- Binding definition: the lines that the listing program prints: it "prints each event as tick, source, value, then "end", status, clock,
-- instants, updates (a declined plan prints "refused", number, entry)". Each is a line, with a space between two of its parts.
use Rattle.std.specs.Prelude.{List, [], ◌∷◌, ◌++◌, ℕ, ◌+◌, ◌*◌, ℤ}
use Rattle.words.specs.Word.{word, signed_word}
use Rattle.plan.specs.Numbers.{event_bytes}
use Rattle.plan.specs.Lists.{joined}
use Rattle.listingtext.specs.Decimal.{decimal, signed_decimal}

-- the ASCII codes of ' ' and of the line's end
abbrev pub space : ℕ
space = 32

abbrev pub newline : ℕ
newline = 10

-- a part of a line with what ends it, a space or the line's end
abbrev pub field : List ℕ → ℕ → List ℕ
field text end = text ++ end ∷ []

-- "end", and "refused", each with the space behind it
abbrev pub end_word : List ℕ
end_word = 101 ∷ 110 ∷ 100 ∷ space ∷ []

abbrev pub refused_word : List ℕ
refused_word = 114 ∷ 101 ∷ 102 ∷ 117 ∷ 115 ∷ 101 ∷ 100 ∷ space ∷ []

-- "each event as tick, source, value"
unfoldable pub event_line : ℕ → ℕ → ℤ → List ℕ
event_line tick source value = (field (decimal tick) space ++ field (decimal source) space) ++ field (signed_decimal value) newline

-- "then "end", status, clock, instants, updates"
unfoldable pub end_line : (status clock instants updates : ℕ) → List ℕ
end_line status clock instants updates =
    (((end_word ++ field (decimal status) space) ++ field (decimal clock) space) ++ field (decimal instants) space) ++ field (decimal updates) newline

-- "a declined plan prints "refused", number, entry"
unfoldable pub refusal_line : ℕ → ℕ → List ℕ
refusal_line number entry = (refused_word ++ field (decimal number) space) ++ field (decimal entry) newline

-- the line of event i of a list of bytes, "12 bytes each: tick, source, signed value"
unfoldable pub line_at : List ℕ → ℕ → List ℕ
line_at bytes i = event_line (word bytes (event_bytes * i)) (word bytes (event_bytes * i + 4)) (signed_word bytes (event_bytes * i + 8))

-- the lines of the first events of a list of bytes
unfoldable pub lines_of : List ℕ → ℕ → List ℕ
lines_of bytes count = joined (line_at bytes) count
