-- Binding definition: the next command, and the least of all due ticks.
use Rattle.std.specs.Prelude.{true, List, ℕ, zero, suc, min}
use Rattle.plan.specs.Numbers.{never}
use Rattle.plan.specs.Lists.{nat_at}
use Rattle.plan.specs.declared.Plan.{Plan}
use Rattle.machine.specs.Entries.{next_entry}

-- "the next command is the first with tick above c, or the command count if none": every command counts
unfoldable pub next_command : Plan → ℕ → ℕ
next_command p clock = next_entry p.commands.ticks (λ e. true) p.counts.commands clock

-- the least of the first n due ticks, or never
unfoldable pub least_due : List ℕ → ℕ → ℕ
least_due d zero = never
least_due d (suc i) = min (least_due d i) (nat_at d i)
