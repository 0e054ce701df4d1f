-- Laws: filling an array that comes in all zero: after i turns of the loop it is the column with i entries used. Each law is over any
-- element, width, entry size and column. Assumes nothing.
use Rattle.std.specs.Prelude.{◌≡◌, List, ℕ, ◌+◌, ◌*◌, ◌^◌, ◌≤◌, ◌<◌, ℤ, pos, set, replicate}
use Rattle.std.proofs.Common.{ap, ◌∙◌, arith, to_z, of_z, to_z-of_z}
use Rattle.std.specs.Int.Signed.{mag}
use Rattle.std.specs.Int.{w64}
use Rattle.std.proofs.Math.Facts.{to_z_pos}
use Rattle.words.specs.Word.{word, signed_word}
use Rattle.plan.specs.Format.{column_of, unsigned_word}
use Rattle.plan.proofs.Laws.Rows.{row_none, row_more}
use Rattle.planfile.specs.Columns.{signeds_of, unsigneds_of}

module _ {A : Type 0} (unused : A) (read : List ℕ → ℕ → A) (wide size : ℕ) (part : List ℕ) (column : ℕ) where
  -- before the loop
  pub column_none : {xs : List A} → xs ≡ replicate wide unused → xs ≡ column_of unused read wide size 0 part column
  unfolding column_of
  column_none e = e ∙ row_none unused wide _

  -- a turn of the loop, which stores what is read at the place of entry i
  pub column_turn : (i : ℕ) {at : ℕ} {xs : List A} {x : A} → xs ≡ column_of unused read wide size i part column → x ≡ read part at
      → at ≡ size * i + 4 * column → set xs i x ≡ column_of unused read wide size (i + 1) part column
  unfolding column_of
  column_turn i e r p = rw (e, r, p) (row_more unused wide i (λ j. read part (size * j + 4 * column)))

  -- behind the loop
  pub column_end : {n i : ℕ} {xs : List A} → xs ≡ column_of unused read wide size i part column → i ≤ n → n ≤ i
      → xs ≡ column_of unused read wide size n part column
  column_end {n} {i} e h l = let q : i ≡ n = omega arith in rw q at e

-- a signed number and a quantum are stored as their bits
module _ (wide size : ℕ) (part : List ℕ) (column i : ℕ) {at : ℕ} {xs : List ℤ} where
  pub signeds_turn : {x : ℤ} → xs ≡ signeds_of wide size i part column → mag x < 2 ^ 63 → x ≡ signed_word part at → at ≡ size * i + 4 * column
      → set xs i (to_z w64 (of_z w64 x)) ≡ signeds_of wide size (i + 1) part column
  signeds_turn e f r p =
      column_turn (pos 0) signed_word wide size part column i e (to_z-of_z {w = w64} (record { sfits = f }) ∙ r) p

  pub unsigneds_turn : {x : ℕ} → xs ≡ unsigneds_of wide size i part column → (x ≡ word part at) × (x < 2 ^ 32) → at ≡ size * i + 4 * column
      → set xs i (to_z w64 x) ≡ unsigneds_of wide size (i + 1) part column
  unsigneds_turn e r p =
      column_turn (pos 0) unsigned_word wide size part column i e (to_z_pos w64 (omega arith) ∙ ap pos r.0) p

pub ruleset columns = (column_none, column_turn, signeds_turn, unsigneds_turn)
