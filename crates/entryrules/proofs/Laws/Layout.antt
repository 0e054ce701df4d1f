-- Laws: the table of sections.
use Rattle.std.specs.Prelude.{ℕ, ◌<◌}
use Rattle.std.proofs.Common.{arith}
use Rattle.plan.specs.Numbers.{sections, entry_sizes}
use Rattle.plan.specs.Lists.{nat_at}
use Rattle.plan.proofs.Laws.Layout.{each_section}

-- an entry has bytes, so a length can be divided by it
pub size-positive : (k : ℕ) → k < sections → 0 < nat_at entry_sizes k
size-positive = each_section (λ k. 0 < nat_at entry_sizes k) (omega arith) (omega arith) (omega arith) (omega arith) (omega arith)

pub ruleset sizes = (size-positive)
