-- Laws: the lines of events: one line more, lines of bytes behind one another, and what the code reads. Assumes nothing.
use Rattle.std.specs.Prelude.{◌≡◌, Bool, true, false, List, ◌++◌, ℤ, ltb, length}
use Rattle.std.proofs.Math.Path.{refl}
use Rattle.std.proofs.Common.{append_assoc, append-nil, add-zero, ltb-true, ltb-false}
use Prim.Native.Nat.{ℕ, zero, suc, ◌+◌, ◌*◌, ◌≤◌, ◌<◌}
use Rattle.std.proofs.Math.Numerals.{add-one}
use native.Mathlib.Omega.{arith}
use Rattle.std.proofs.Math.ListN.{length-append}
use Rattle.words.specs.Word.{number_at, word, signed_word}
use Rattle.words.proofs.Laws.Reading.{number_before, number_behind}
use Rattle.plan.specs.Lists.{joined}
use Rattle.plan.proofs.Laws.Joined.{joined_split}
use Rattle.listingtext.specs.Lines.{event_line, line_at, lines_of}
use Rattle.listingtext.specs.Printed.{Printed}
use Rattle.listingtext.proofs.Laws.Printing.{nothing}

module _ (bytes : List ℕ) where
  pub lines_more : (i : ℕ) → lines_of bytes (i + 1) ≡ lines_of bytes i ++ line_at bytes i
  unfolding lines_of joined
  lines_more i = rw add-one

  -- the lines up to the next one are no longer than all of them
  pub lines_fit : (i k : ℕ) → i < k → length (lines_of bytes i ++ line_at bytes i) ≤ length (lines_of bytes k)
  unfolding lines_of
  lines_fit i k h =
      let split = joined_split (line_at bytes) k i h in
      rw split.1 (simp length-append (omega arith))

  -- nor are those of fewer events
  pub lines_fit_to : (i k : ℕ) {room : ℕ} → i ≤ k → length (lines_of bytes k) ≤ room → length (lines_of bytes i) ≤ room
  lines_fit_to i k {room} h l = go (ltb i k) refl
    where
      go : (b : Bool) → ltb i k ≡ b → length (lines_of bytes i) ≤ room
      go true e = omega (arith, length-append (lines_of bytes i) (line_at bytes i), lines_fit i k (ltb-true i k e))
      go false e = let same : i ≡ k = omega (arith, ltb-false i k e) in rw same l

  -- no line yet
  pub begun : (buffer : List ℕ) → Printed (lines_of bytes 0) buffer 0 buffer
  unfolding lines_of joined
  begun = nothing

  -- the line of what is read of event i
  pub line_read : (i : ℕ) {tick source : ℕ} {value : ℤ} → tick ≡ word bytes (12 * i) → source ≡ word bytes (12 * i + 4)
      → value ≡ signed_word bytes (12 * i + 8) → event_line tick source value ≡ line_at bytes i
  unfolding line_at
  line_read i t s v = rw (t, s, v)

-- ---- bytes behind bytes
module _ (front rest : List ℕ) where
  -- the lines of the first events, whatever comes behind them
  pub lines_before : (k : ℕ) → 12 * k ≤ length front → lines_of (front ++ rest) k ≡ lines_of front k
  unfolding lines_of joined line_at
  lines_before zero h = refl
  lines_before (suc k) h =
      rw (
        lines_before k (omega arith),
        number_before 4 front rest (12 * k) (omega arith),
        number_before 4 front rest (12 * k + 4) (omega arith),
        number_before 4 front rest (12 * k + 8) (omega arith),
      )

  -- and those of the events behind k events
  module _ (k : ℕ) (e : length front ≡ 12 * k) where
    word_behind : (n at : ℕ) → number_at 4 (front ++ rest) (12 * (k + n) + at) ≡ number_at 4 rest (12 * n + at)
    word_behind n at = number_behind 4 front rest (12 * n + at) (12 * (k + n) + at) (omega arith)

    line_behind : (n : ℕ) → line_at (front ++ rest) (k + n) ≡ line_at rest n
    unfolding line_at
    line_behind n = rw (rw (add-zero, add-zero) at (word_behind n 0), word_behind n 4, word_behind n 8)

    pub lines_append : (n : ℕ) → lines_of (front ++ rest) (k + n) ≡ lines_of front k ++ lines_of rest n
    unfolding lines_of joined
    lines_append zero = rw (add-zero, append-nil) (lines_before k (omega arith))
    lines_append (suc n) =
        let next : k + suc n ≡ suc (k + n) = omega arith in
        rw (next, lines_append n, line_behind n) (append_assoc (lines_of front k) (lines_of rest n) (line_at rest n))
