-- `State::idle` meets its contract: the definition computes to the fields that the code sets. Assumes nothing.
use Rattle.plan.specs.Idle.{idle_plan}
use Rattle.plan.specs.Lists.{table, row, first_from}
use Rattle.machine.specs.Values.{sum_over, rate_of}
use Rattle.machine.specs.Due.{due_tick, due_of}
use Rattle.machine.specs.Entries.{next_entry}
use Rattle.machine.specs.Next.{next_command}
use Rattle.machine.specs.Held.{slope_of}
use Rattle.machine.specs.Start.{start_slope, start_due, start_of, start_state, idle_state}
use Rattle.machine.proofs.State.idle.Goals as goal

pub returns : goal.returns
unfolding table row first_from sum_over rate_of due_tick due_of next_entry next_command slope_of start_slope start_due start_of start_state idle_state
returns c = λ i. record { plan = c.idle-plan.ensures i; run = start_of idle_plan }
