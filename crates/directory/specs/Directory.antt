-- Model of the code: the refusals 1 to 3 of a file, in order, before any entry is read; and what a reader of its sections asks of it.
-- Laws/Directory shows that a file is refused for these first, and that an accepted one has what is asked.
use Rattle.std.specs.Prelude.{List, ℕ, ◌≤◌, length}
use Rattle.plan.specs.Numbers.{header_bytes}
use Rattle.plan.specs.Tests.{long_enough, offsets_kept, sizes_kept}
use Rattle.plan.specs.Rules.{OffsetRule, SizeRule}
use Rattle.plan.specs.Refusals.{Finding, unless, or_else}
use Rattle.plan.specs.declared.Refusal.TheVariants.{Short, Offsets, Sizes}

unfoldable pub directory_finding : List ℕ → Finding
directory_finding file =
    or_else (unless (long_enough file) Short) (or_else (unless (offsets_kept file) Offsets) (unless (sizes_kept file) Sizes))

-- the directory of a file keeps its rules
pub record Directory (file : List ℕ) : Type 0 where
  pub long : header_bytes ≤ length file
  pub offsets : OffsetRule file
  pub sizes : SizeRule file
