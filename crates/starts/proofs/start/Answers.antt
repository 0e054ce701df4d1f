-- Each call's result is its part of the start.
use mathlib.Core.Path.{◌≡◌, ap}
use lib.IntN.{pos}
use Rattle.plan.specs.Lists.{row}
use Rattle.plan.proofs.Laws.CountLimits.{count-limits}
use Rattle.machine.specs.Held.{held_start}
use Rattle.machine.specs.Next.{next_command}
use Rattle.machine.specs.Start.{start_slope}
use Rattle.tables.proofs.Laws.OfPlan.{tables_ready, tables_are}
use Rattle.starts.proofs.Laws.Starts.{first_outputs, first-inputs, start_dues_ready, start_dues, start_is}
use Rattle.starts.proofs.start.Goals.{After-tables_by}
use Rattle.starts.proofs.start.Goals as goal

pub tables_by-requires : goal.tables_by-requires
tables_by-requires c =
    let p = c.args.plan.now in tables_ready p c.requires (held_start p) (first_outputs p c.requires) (first-inputs p c.requires)

slopes : (c : After-tables_by) → let p = c.args.plan.now in c.tables_by.result.slopes ≡ row (pos 0) 32 p.counts.n (start_slope p)
unfolding start_slope
slopes c = let p = c.args.plan.now in ap (λ t. t.slopes) (tables_are p c.requires (held_start p) c.tables_by.ensures)

pub start_dues-d-requires : goal.start_dues-d-requires
start_dues-d-requires c =
    let p = c.args.plan.now in let s = slopes (goal.at.start_dues-d-requires c).After-tables_by in
    ((count-limits p c.requires.counts).n, start_dues_ready p c.requires s)

pub next_entry-next-requires : goal.next_entry-next-requires
next_entry-next-requires c = (count-limits c.args.plan.now c.requires.counts).commands

pub returns : goal.returns
unfolding next_command
returns c =
    let p = c.args.plan.now in let s = slopes (goal.at.returns c).After-tables_by in
    start_is p s (start_dues p c.requires s c.start_dues-d.ensures) c.next_entry-next.ensures
