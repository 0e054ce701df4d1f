-- Laws: what the directory of a file finds is what the file is refused for first, and where it finds nothing the directory keeps its rules.
use Rattle.std.specs.Prelude.{◌≡◌, refl, Bool, true, false, List, ℕ, Ok}
use Rattle.std.proofs.Common.{ap, ◌∙◌, arith}
use Rattle.plan.specs.Format.{plan_in}
use Rattle.plan.specs.Tests.{long_enough, offsets_kept, sizes_kept}
use Rattle.plan.specs.Refusals.{unless, or_else, plan_finding, finding_of, accepted}
use Rattle.plan.proofs.Laws.FileRefusals.{accepted-offsets, accepted-sizes}
use Rattle.plan.proofs.Laws.Parts.{file_limits}
use Rattle.plan.proofs.Laws.FileTests.{long_kept, offsets_kept_lem, sizes_kept_lem}
use Rattle.plan.specs.declared.Refusal.TheVariants.{Short, Offsets, Sizes}
use Rattle.entryrules.proofs.Laws.ChecksInOrder.{or_else_join}
use Rattle.directory.specs.Directory.{directory_finding, Directory}

-- what the directory finds is what the file is refused for, and else what its plan is refused for
pub finding_directory : (file : List ℕ) → finding_of file ≡ or_else (directory_finding file) (plan_finding (plan_in file))
unfolding finding_of directory_finding
finding_directory file =
    let short = unless (long_enough file) Short in
    let offsets = unless (offsets_kept file) Offsets in
    let sizes = unless (sizes_kept file) Sizes in
    let plan = plan_finding (plan_in file) in
    ap (or_else short) (or_else_join offsets sizes plan) ∙ or_else_join short (or_else offsets sizes) plan

-- where the directory finds nothing it keeps its rules
pub directory_kept : (file : List ℕ) → directory_finding file ≡ Ok tt → Directory file
unfolding directory_finding or_else
directory_kept file = go (long_enough file) (offsets_kept file) (sizes_kept file) refl refl refl
  where
    go : (a b c : Bool) → long_enough file ≡ a → offsets_kept file ≡ b → sizes_kept file ≡ c
        → or_else (unless a Short) (or_else (unless b Offsets) (unless c Sizes)) ≡ Ok tt → Directory file
    go true true true x y z e =
        record { long = (long_kept file).0 x; offsets = (offsets_kept_lem file).0 y; sizes = (sizes_kept_lem file).0 z }
    go true true false x y z e = absurd (cc)
    go true false c x y z e = absurd (cc)
    go false b c x y z e = absurd (cc)

-- so does the directory of an accepted file
pub directory_accepted : (file : List ℕ) → accepted file ≡ true → Directory file
directory_accepted file e =
    let offsets = accepted-offsets file e in
    let sizes = accepted-sizes file e in
    record { long = omega (arith, file_limits file sizes offsets); offsets = offsets; sizes = sizes }

-- a directory that keeps its rules finds nothing, so the file is refused for what its plan is refused for
directory_clean : (file : List ℕ) → Directory file → directory_finding file ≡ Ok tt
unfolding directory_finding or_else
directory_clean file d = rw ((long_kept file).1 d.long, (offsets_kept_lem file).1 d.offsets, (sizes_kept_lem file).1 d.sizes)

pub finding_plan : (file : List ℕ) → Directory file → finding_of file ≡ plan_finding (plan_in file)
unfolding or_else
finding_plan file d = rw (finding_directory file, directory_clean file d)
