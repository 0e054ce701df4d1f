-- Model of the code: columns of a section by the kind of their numbers, not signed, signed, and quanta, which are not signed but counted
-- beside values. `column_section` of Laws/Sections shows that they are the plan's.
use Rattle.std.specs.Prelude.{List, ℕ, ℤ, pos}
use Rattle.words.specs.Word.{word, signed_word}
use Rattle.plan.specs.Format.{column_of, unsigned_word}

abbrev pub words_of : (wide size count : ℕ) (part : List ℕ) (column : ℕ) → List ℕ
words_of = column_of 0 word

abbrev pub signeds_of : (wide size count : ℕ) (part : List ℕ) (column : ℕ) → List ℤ
signeds_of = column_of (pos 0) signed_word

abbrev pub unsigneds_of : (wide size count : ℕ) (part : List ℕ) (column : ℕ) → List ℤ
unsigneds_of = column_of (pos 0) unsigned_word
