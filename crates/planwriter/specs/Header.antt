-- Model of the code: what the writers of the header ask, that the counts are limited. `counts-within-limits` of Laws/Header shows it for every plan that
-- keeps the rules.
use Rattle.std.specs.Prelude.{List, ℕ, ◌≤◌, ◌<◌}
use Rattle.plan.specs.Numbers.{sections, largest_counts}
use Rattle.plan.specs.Lists.{nat_at}

-- no count is above its section's limit
abbrev pub CountsWithinLimits : List ℕ → Type 0
CountsWithinLimits counts = (section : ℕ) → section < sections → nat_at counts section ≤ nat_at largest_counts section
