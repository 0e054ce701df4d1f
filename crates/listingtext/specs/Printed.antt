-- Model of the code: text in a buffer, what the contracts of this crate say.
use Rattle.std.specs.Prelude.{◌≡◌, List, ◌++◌, ℕ, ◌+◌, length, take, drop}

-- the answer is the text's length, and the buffer's first bytes are the text; the later ones keep their value
pub record Printed (text before : List ℕ) (answer : ℕ) (after : List ℕ) : Type 0 where
  pub size : answer ≡ length text
  pub bytes : after ≡ text ++ drop (length text) before

-- the same from byte `at` on, with the place behind the text as the answer; the earlier bytes keep their value too
pub record PrintedAt (at : ℕ) (text before : List ℕ) (answer : ℕ) (after : List ℕ) : Type 0 where
  pub size : answer ≡ at + length text
  pub bytes : after ≡ take at before ++ (text ++ drop (at + length text) before)
