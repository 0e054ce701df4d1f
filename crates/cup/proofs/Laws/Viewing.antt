-- Laws: the section view for C and Rust: what its offset and length say, and how a refused file is told from an accepted one.
use Rattle.std.specs.Prelude.{◌≡◌, Bool, List, ℕ, ◌≤◌, length}
use Rattle.std.proofs.Math.Path.{refl}
use Rattle.std.proofs.Common.{ap, arith}
use Rattle.std.proofs.Math.Bool.{true, false}
use Rattle.std.proofs.Math.Dec.{ltb}
use borrow.Author.Tests.{ltb-true, ltb-false}
use Rattle.plan.specs.Numbers.{sections}
use Rattle.plan.specs.Format.{part, section_in}
use Rattle.plan.specs.Refusals.{accepted, section_of, section_start}
use Rattle.plan.proofs.Laws.FileRefusals.{accepted-sizes}
use Rattle.plan.proofs.Laws.Parts.{length-entries}
use Rattle.plan.proofs.Laws.View.{view-shown, length-shown, view-refused, view-above, start-shown, start-refused, start-above}

module _ (file : List ℕ) where
  -- "Integrators, 1 to 32": the first section of a file is empty only if the file is refused
  pub first-refused : length (section_of file 0) ≡ 0 → accepted file ≡ false
  first-refused none = go (accepted file) refl
    where
      go : (b : Bool) → accepted file ≡ b → accepted file ≡ false
      go true e =
          let sizes = accepted-sizes file e in
          absurd (omega (arith, none, length-shown file 0 e (omega arith), length-entries file sizes 0 (omega arith), sizes.count 0 (omega arith)))
      go false e = e

  pub first-accepted : (length (section_of file 0) ≡ 0 → ⊥) → accepted file ≡ true
  first-accepted some = go (accepted file) refl
    where
      go : (b : Bool) → accepted file ≡ b → accepted file ≡ true
      go true e = e
      go false e = absurd (some (ap length (view-refused file 0 e)))

  -- where the file would be refused or the number is above 4, offset and length are 0
  abbrev NoPart : ℕ → Type 0
  NoPart number = (length (section_of file number) ≡ 0) × (section_start file number ≡ 0)

  pub none-refused : (number : ℕ) → accepted file ≡ false → NoPart number
  none-refused number e = (ap length (view-refused file number e), start-refused file number e)

  pub none_above : (number : ℕ) → sections ≤ number → NoPart number
  none_above number h = (ap length (view-above file number h), start-above file number h)

  -- offset and length give the part of the file that the section view hands back
  pub view-part : (number : ℕ) → part file (section_start file number) (length (section_of file number)) ≡ section_of file number
  unfolding part section_in
  view-part number = go (accepted file) (ltb number sections) refl refl
    where
      go : (a b : Bool) → accepted file ≡ a → ltb number sections ≡ b
          → part file (section_start file number) (length (section_of file number)) ≡ section_of file number
      go true true e h =
          let known = ltb-true number sections h in
          rw (start-shown file number e known, length-shown file number e known, view-shown file number e known) refl
      go true false e h = rw (view-above file number (ltb-false number sections h)) refl
      go false b e h = rw (view-refused file number e) refl
