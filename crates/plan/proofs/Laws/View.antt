-- Laws: the section view: the part of the file by its directory, or an empty part. Assumes nothing.
use Rattle.std.specs.Prelude.{◌≡◌, true, false, List, [], ℕ, ◌≤◌, ◌<◌, length}
use Rattle.std.proofs.Math.Bool.{and-false}
use borrow.Author.Tests.{lt-ltb, le-ltb}
use Rattle.plan.specs.Numbers.{sections}
use Rattle.plan.specs.Format.{offset_in, length_in, section_in}
use Rattle.plan.specs.Refusals.{accepted, section_of, section_start}
use Rattle.plan.proofs.Laws.FileRefusals.{accepted-offsets}
use Rattle.plan.proofs.Laws.Parts.{length-section_in}

module _ (file : List ℕ) (number : ℕ) where
  pub view-shown : accepted file ≡ true → number < sections → section_of file number ≡ section_in file number
  unfolding section_of
  view-shown e h = rw (e, lt-ltb number sections h)

  -- it is as long as the directory says
  pub length-shown : accepted file ≡ true → number < sections → length (section_of file number) ≡ length_in file number
  length-shown e h = rw (view-shown e h) (length-section_in file (accepted-offsets file e) number h)

  pub start-shown : accepted file ≡ true → number < sections → section_start file number ≡ offset_in file number
  unfolding section_start
  start-shown e h = rw (e, lt-ltb number sections h)

  pub start-refused : accepted file ≡ false → section_start file number ≡ 0
  unfolding section_start
  start-refused e = rw e

  pub start-above : sections ≤ number → section_start file number ≡ 0
  unfolding section_start
  start-above h = rw (le-ltb number sections h, and-false (accepted file))

  pub view-refused : accepted file ≡ false → section_of file number ≡ []
  unfolding section_of
  view-refused e = rw e

  pub view-above : sections ≤ number → section_of file number ≡ []
  unfolding section_of
  view-above h = rw (le-ltb number sections h, and-false (accepted file))
