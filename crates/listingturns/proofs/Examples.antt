-- Worked examples, computed by the checker: the listing, with one theorem over their table, which guards the definitions of this crate:
-- document 01's cup, a plan that is barred at its first tick, and a file that is refused. The table of P1 to P9 stands in the crate
-- `workedexamples`.
use Rattle.std.specs.Prelude.{refl, List, [], ◌∷◌, ℕ}
use Rattle.integers.specs.Division.{ceil_div}
use Rattle.integers.specs.Range.{limited, within}
use Rattle.bitset.specs.Counts.{count_of}
use Rattle.words.specs.Word.{number_at, bytes_of, signed_of, unsigned_of, flat}
use Rattle.plan.specs.Lists.{table, row, joined, every, some, first_from}
use Rattle.plan.specs.Format.{horizon_in, offset_in, length_in, required_offset, count_in, part, section_in, column_of, column_in, plan_in}
use Rattle.plan.specs.Tests.{long_enough, offsets_kept, count_kept, sizes_kept, horizon_kept, integrator_kept, input_kept}
use Rattle.plan.specs.Tests.{node_test, pair_ascends, node_kept, link_limits_kept, link_ordered, command_limits_kept, command_ordered}
use Rattle.plan.specs.Refusals.{refusal_number, refusal_entry, number_of, entry_of, is_clean, or_else, first_finding, horizon_finding, integrators_finding, inputs_finding}
use Rattle.plan.specs.Refusals.{nodes_finding, links_finding, commands_finding, plan_finding, finding_of, accepted}
use Rattle.plan.specs.ExampleTables.{Case, case, AllRight, end, ◌&◌}
use Rattle.plan.specs.ExampleFiles.{file_of, cup_file}
use Rattle.machine.specs.Values.{node_value, value_with, value_of, sum_over, rate_of}
use Rattle.machine.specs.Due.{upper_level, lower_level, distance, ticks_to, due_tick, due_of}
use Rattle.machine.specs.Entries.{sets, value_then, next_entry, entry_tick}
use Rattle.machine.specs.Next.{next_command, least_due}
use Rattle.machine.specs.Held.{slope_of, inputs_then, entries_tick, next_tick}
use Rattle.machine.specs.Start.{start_slope, start_due, start_of, start_state, idle_state}
use Rattle.machine.specs.Reach.{is_due, is_commanded, woken, gives, placed, changes_by, depends_with, link_reaches, reached, touched}
use Rattle.machine.specs.Instant.{position_at, moves, bytes_of_event, events_at, outputs_by, place_by, outcome_events, due_then, figures_after}
use Rattle.machine.specs.Instant.{next_tick_of, instant, events_of}
use Rattle.machine.specs.Status.{status_number, is_paused, bars, barring, status_by, status_at, status_of, running_paused}
use Rattle.machine.specs.Runs.{after_run, events_of_run}
use Rattle.listingtext.specs.Decimal.{digits_in, decimal, signed_decimal}
use Rattle.listingtext.specs.Lines.{event_line, end_line, refusal_line, line_at, lines_of}
use Rattle.calls.specs.Calls.{load_of, ran_state, ran_events}
use Rattle.listingturns.specs.Listing.{event_lines, end_line_of, listing_of_run, listing_of}
use Rattle.listingturns.specs.Turns.{turn_state, turn_more, turn_text, begin_text, turns_from, printed_in}

-- "4 0 12", "6 2 -3", "end 1 6 2 3"
abbrev cup_text : List ℕ
cup_text =
    52 ∷ 32 ∷ 48 ∷ 32 ∷ 49 ∷ 50 ∷ 10 ∷ 54 ∷ 32 ∷ 50 ∷ 32 ∷ 45 ∷ 51 ∷ 10
    ∷ 101 ∷ 110 ∷ 100 ∷ 32 ∷ 49 ∷ 32 ∷ 54 ∷ 32 ∷ 50 ∷ 32 ∷ 51 ∷ 10 ∷ []

-- a cup that is barred at its first tick
abbrev barred_file : List ℕ
barred_file = file_of 10 (1073741823 ∷ 5 ∷ []) (5 ∷ []) [] (0 ∷ 1 ∷ 65536 ∷ []) []

-- integrator 1 has a quantum of 0
abbrev refused_file : List ℕ
refused_file = file_of 10 (0 ∷ 1 ∷ 0 ∷ 0 ∷ []) [] [] [] []

pub examples : List Case
examples =
    case (List ℕ) (listing_of cup_file) cup_text
    ∷ case (List ℕ) (printed_in 2 cup_file) cup_text
    -- "end 2 0 0 0"
    ∷ case (List ℕ) (listing_of barred_file) (101 ∷ 110 ∷ 100 ∷ 32 ∷ 50 ∷ 32 ∷ 48 ∷ 32 ∷ 48 ∷ 32 ∷ 48 ∷ 10 ∷ [])
    -- "refused 5 1"
    ∷ case (List ℕ) (listing_of refused_file) (114 ∷ 101 ∷ 102 ∷ 117 ∷ 115 ∷ 101 ∷ 100 ∷ 32 ∷ 53 ∷ 32 ∷ 49 ∷ 10 ∷ [])
    ∷ case (List ℕ) (printed_in 0 refused_file) (114 ∷ 101 ∷ 102 ∷ 117 ∷ 115 ∷ 101 ∷ 100 ∷ 32 ∷ 53 ∷ 32 ∷ 49 ∷ 10 ∷ [])
    ∷ []

pub examples_right : AllRight examples
unfolding examples ceil_div limited within count_of number_at bytes_of signed_of unsigned_of flat table row joined every some first_from
    horizon_in offset_in length_in required_offset count_in part section_in column_of column_in plan_in long_enough offsets_kept count_kept sizes_kept
    horizon_kept integrator_kept input_kept node_test pair_ascends node_kept link_limits_kept link_ordered command_limits_kept
    command_ordered refusal_number refusal_entry number_of entry_of is_clean or_else first_finding horizon_finding integrators_finding inputs_finding nodes_finding
    links_finding commands_finding plan_finding finding_of accepted node_value value_with value_of sum_over rate_of upper_level lower_level distance ticks_to
    due_tick due_of sets value_then next_entry entry_tick next_command least_due slope_of inputs_then entries_tick next_tick start_slope start_due start_of
    start_state idle_state is_due is_commanded woken gives placed changes_by depends_with link_reaches reached touched position_at moves bytes_of_event events_at
    outputs_by place_by outcome_events due_then figures_after next_tick_of instant events_of bars barring status_number is_paused status_by status_at status_of running_paused after_run events_of_run
    digits_in decimal signed_decimal event_line end_line refusal_line line_at lines_of load_of ran_state ran_events event_lines end_line_of listing_of_run listing_of
    turn_state turn_more turn_text begin_text turns_from printed_in
examples_right = refl & refl & refl & refl & refl & end
