-- Worked examples, computed by the checker: the calls on document 01's cup, with one theorem over their table: each refusal, the buffers,
-- and a list of calls that mixes the engines and has two declined calls. What is brought in and opened here serves the comparison of the
-- definitions with the second simulator too.
use Rattle.std.specs.Prelude.{refl, Bool, true, false, List, [], ◌∷◌, ◌++◌, ℕ, ℤ, pos, negsuc, replicate}
use Rattle.integers.specs.Division.{ceil_div}
use Rattle.integers.specs.Range.{limited, within}
use Rattle.bitset.specs.Counts.{count_of}
use Rattle.words.specs.Word.{number_at, bytes_of, signed_of, unsigned_of, flat}
use Rattle.plan.specs.Lists.{table, row, joined, every, some, all, first_from}
use Rattle.plan.specs.Format.{horizon_in, offset_in, length_in, required_offset, count_in, part, section_in, column_of, column_in, plan_in}
use Rattle.plan.specs.Tests.{long_enough, offsets_kept, count_kept, sizes_kept, horizon_kept, count_list, counts_kept, integrator_kept, input_kept}
use Rattle.plan.specs.Tests.{node_test, pair_ascends, node_kept, link_limits_kept, link_ordered, command_limits_kept, command_ordered}
use Rattle.plan.specs.Refusals.{refusal_number, refusal_entry, number_of, entry_of, is_clean, or_else, first_finding, horizon_finding}
use Rattle.plan.specs.Refusals.{integrators_finding, inputs_finding, nodes_finding, links_finding, commands_finding, plan_finding, finding_of, accepted, section_of}
use Rattle.plan.specs.Encoding.{offset_from, offset_of, file_length, header_words, integrator_words, input_words, node_words, link_words}
use Rattle.plan.proofs.Laws.Layout.{length_of}
use Rattle.plan.specs.Encoding.{command_words, file_words, encode}
use Rattle.plan.specs.ExampleTables.{Case, case, AllRight, end, ◌&◌}
use Rattle.plan.specs.ExampleFiles.{file_of, cup_file, cup_plan}
use Rattle.machine.specs.Values.{node_value, value_with, value_of, sum_over, rate_of}
use Rattle.machine.specs.Due.{upper_level, lower_level, distance, ticks_to, due_tick, due_of}
use Rattle.machine.specs.Entries.{sets, value_then, next_entry, entry_tick}
use Rattle.machine.specs.Next.{next_command, least_due}
use Rattle.machine.specs.Held.{slope_of, inputs_then, entries_tick, next_tick}
use Rattle.machine.specs.Start.{start_slope, start_due, start_of, start_state, idle_state}
use Rattle.machine.specs.Reach.{is_due, is_commanded, woken, gives, placed, changes_by, depends_with, link_reaches, reached, touched}
use Rattle.machine.specs.Instant.{position_at, moves, bytes_of_event, events_at, outputs_by, place_by, outcome_events, due_then, figures_after}
use Rattle.machine.specs.Instant.{next_tick_of, instant, events_of}
use Rattle.machine.specs.Status.{status_number, status_integrator, is_paused, bars, barring, status_by, status_at, status_of, running_paused}
use Rattle.machine.specs.Runs.{after_run, events_of_run, events_most, room_of, position_of}
use Rattle.machine.specs.Plain.{settled, plain_start, plain_next_tick, plain_position, plain_instant, plain_events_of, plain_status}
use Rattle.machine.specs.Plain.{lazy_count, plain_from, plain_events_from, plain_after, plain_events}
use Rattle.plan.specs.Unused.{nats_zero_from, ints_zero_from, plan_unused_zero}
use Rattle.machine.specs.SoundTest.{plan_sound, held_sound, moved_unused_zero, integrator_sound, running_sound, is_sound}
use Rattle.machine.specs.declared.State.{State}
use Rattle.machine.specs.declared.Engine.{Engine}
use Rattle.machine.specs.declared.Engine.TheVariants.{Lazy, Eager}
use Rattle.calls.specs.Calls.{load_of, write_number, write_of, buffer_of_write, run_number_if_sound, run_number, ran_state, ran_events}
use Rattle.calls.specs.Calls.{run_of, buffer_of_run, position_number, positioned_of}
use Rattle.calls.specs.Lists.{Call, answer_of, buffer_of, accepted_budget, after_calls, budget_sum, joined_bytes, engine_at, cut_at, rest_at, all_by}
use Rattle.machine.specs.Updates.{growth, growth_up_to, is_eager, eager_instants, lazy_growth, moved_now}

-- the cup as it is loaded, its plan number for number
abbrev loaded : State
loaded = start_state cup_plan

-- the loaded cup with its clock at its first due tick, which no sound state has
abbrev unsound : State
unsound = record {
  plan = cup_plan;
  run = record {
    x = loaded.run.x;
    q = loaded.run.q;
    s = loaded.run.s;
    l = loaded.run.l;
    d = loaded.run.d;
    inputs = loaded.run.inputs;
    clocks = record { clock = 4; next = 0; instants = 0; updates = 0 };
  };
}

-- a cup of two integrators that is barred at its first tick, by integrator 1
abbrev barred : State
barred = start_state (plan_in (file_of 10 (0 ∷ 5 ∷ 1073741823 ∷ 5 ∷ []) (5 ∷ []) [] (0 ∷ 2 ∷ 65536 ∷ 1 ∷ 2 ∷ 65536 ∷ []) []))

-- a buffer of this length, filled with 7
abbrev filled : ℕ → List ℕ
filled n = replicate n 7

abbrev cup_events : List ℕ
cup_events = 4 ∷ 0 ∷ 0 ∷ 0 ∷ 0 ∷ 0 ∷ 0 ∷ 0 ∷ 12 ∷ 0 ∷ 0 ∷ 0 ∷ 6 ∷ 0 ∷ 0 ∷ 0 ∷ 2 ∷ 0 ∷ 0 ∷ 0 ∷ 253 ∷ 255 ∷ 255 ∷ 255 ∷ []

-- a lazy call of budget 1, one declined by 11, an eager one of budget 1, one declined by 12, a lazy one of budget 3
abbrev mixed : List Call
mixed =
    record { engine = Lazy; budget = 1; buffer = filled 36 } ∷ record { engine = Eager; budget = 1025; buffer = [] }
    ∷ record { engine = Eager; budget = 1; buffer = filled 40 } ∷ record { engine = Lazy; budget = 1; buffer = filled 35 }
    ∷ record { engine = Lazy; budget = 3; buffer = filled 108 } ∷ []

-- one lazy call that takes both instants of the cup
abbrev single : List Call
single = record { engine = Lazy; budget = 2; buffer = filled 72 } ∷ []

pub examples : List Case
examples =
    -- load: the cup, and a refused file
    case ℕ (load_of cup_file).number 0
    ∷ case ℕ (load_of cup_file).entry 0
    ∷ case (List ℕ) (load_of cup_file).state.run.d (4 ∷ 4294967295 ∷ replicate 30 0)
    ∷ case ℕ (load_of (file_of 10 (0 ∷ 1 ∷ 0 ∷ 0 ∷ []) [] [] [] [])).number 5
    ∷ case ℕ (load_of (file_of 10 (0 ∷ 1 ∷ 0 ∷ 0 ∷ []) [] [] [] [])).entry 1
    ∷ case ℕ (load_of (file_of 10 (0 ∷ 1 ∷ 0 ∷ 0 ∷ []) [] [] [] [])).state.plan.counts.n 1
    ∷ case ℕ (load_of (file_of 10 (0 ∷ 1 ∷ 0 ∷ 0 ∷ []) [] [] [] [])).state.plan.horizon 1
    -- section view: a part of the file, or nothing
    ∷ case (List ℕ) (section_of cup_file 1) (3 ∷ 0 ∷ 0 ∷ 0 ∷ [])
    ∷ case (List ℕ) (section_of cup_file 5) []
    -- plan writer: 10 before 13; else the file, and the byte behind it kept; the state handed in comes back
    ∷ case ℕ (write_of unsound (filled 0)).number 10
    ∷ case ℕ (write_of loaded (filled 99)).number 13
    ∷ case ℕ (write_of loaded (filled 99)).length 0
    ∷ case (List ℕ) (buffer_of_write loaded (filled 3)) (filled 3)
    ∷ case ℕ (write_of unsound (filled 0)).state.run.clocks.clock 4
    ∷ case ℕ (write_of loaded (filled 99)).state.plan.horizon 10
    ∷ case ℕ (write_of loaded (filled 100)).number 0
    ∷ case (List ℕ) (buffer_of_write loaded (filled 100)) cup_file
    ∷ case ℕ (write_of loaded (filled 100)).state.plan.horizon 10
    ∷ case ℕ (write_of loaded (filled 101)).number 0
    ∷ case ℕ (write_of loaded (filled 101)).length 100
    ∷ case (List ℕ) (buffer_of_write loaded (filled 101)) (cup_file ++ (7 ∷ []))
    -- runs: 10 before 11 before 12; 12 by the budget, though the run would end sooner; budget 0 with an empty buffer is accepted
    ∷ case ℕ (run_of Lazy unsound 1025 []).number 10
    ∷ case ℕ (run_of Lazy loaded 1025 []).number 11
    ∷ case ℕ (run_of Lazy loaded 1024 []).number 12
    ∷ case ℕ (run_of Eager loaded 3 (filled 107)).number 12
    ∷ case ℕ (run_of Eager loaded 3 (filled 107)).written 0
    ∷ case ℕ (run_of Lazy loaded 3 (filled 108)).number 0
    ∷ case ℕ (run_of Lazy loaded 3 (filled 108)).status 1
    ∷ case ℕ (run_of Lazy loaded 3 (filled 108)).written 24
    ∷ case (List ℕ) (buffer_of_run Lazy loaded 3 (filled 108)) (cup_events ++ filled 84)
    ∷ case (List ℕ) (buffer_of_run Lazy loaded 3 (filled 5)) (filled 5)
    ∷ case ℕ (run_of Lazy loaded 0 []).number 0
    ∷ case ℕ (run_of Lazy loaded 0 []).status 0
    ∷ case ℕ (run_of Lazy loaded 1 (filled 36)).status 0
    ∷ case ℕ (run_of Lazy loaded 1 (filled 36)).state.run.clocks.clock 4
    ∷ case ℕ (run_of Lazy loaded 1 (filled 35)).state.run.clocks.clock 0
    ∷ case ℕ (run_number_if_sound cup_plan 1024 36864) 0
    -- range with its integrator, nothing written; declined, every figure is 0
    ∷ case ℕ (run_of Eager barred 1 (filled 36)).number 0
    ∷ case ℕ (run_of Eager barred 1 (filled 36)).status 2
    ∷ case ℕ (run_of Eager barred 1 (filled 36)).integrator 1
    ∷ case ℕ (run_of Eager barred 1 (filled 36)).written 0
    ∷ case ℕ (run_of Eager barred 1 (filled 35)).number 12
    ∷ case ℕ (run_of Eager barred 1 (filled 35)).status 0
    ∷ case ℕ (run_of Eager barred 1 (filled 35)).integrator 0
    -- position call: 10 before 14; the state handed in comes back, and a declined value is 0
    ∷ case ℤ (positioned_of unsound 0).value (pos 0)
    ∷ case ℕ (positioned_of unsound 0).state.run.clocks.clock 4
    ∷ case ℤ (positioned_of barred 1).value (pos 1073741823)
    ∷ case ℕ (positioned_of barred 1).state.plan.horizon 10
    ∷ case ℕ (positioned_of unsound 2).number 10
    ∷ case ℕ (positioned_of loaded 2).number 14
    ∷ case ℕ (positioned_of loaded 1).number 0
    ∷ case ℤ (positioned_of (run_of Lazy loaded 3 (filled 108)).state 1).value (pos 24)
    -- a list of calls: what it feeds the plain machine, its bytes, its clock, whose its instants are, and its updates, 2 lazy and 2 eager
    ∷ case ℕ (budget_sum loaded mixed) 5
    ∷ case (List ℕ) (joined_bytes loaded mixed) cup_events
    ∷ case ℕ (after_calls loaded mixed).run.clocks.clock 6
    ∷ case ℕ (after_calls loaded mixed).run.clocks.updates 4
    ∷ case Engine (engine_at loaded mixed 1) Lazy
    ∷ case Engine (engine_at loaded mixed 2) Eager
    ∷ case Engine (engine_at loaded mixed 3) Lazy
    ∷ case ℕ (growth_up_to cup_plan (engine_at loaded mixed) 2) 4
    ∷ case ℕ (growth_up_to cup_plan (engine_at loaded (all_by Lazy mixed)) 2) 3
    ∷ case ℕ (eager_instants (engine_at loaded mixed) 2) 1
    ∷ case ℕ (lazy_growth cup_plan (engine_at loaded mixed) 2) 2
    ∷ case ℕ (after_calls loaded (cut_at loaded mixed 1)).run.clocks.instants 1
    ∷ case ℕ (after_calls loaded (cut_at loaded mixed 2)).run.clocks.instants 2
    ∷ case ℕ (moved_now cup_plan (after_calls loaded (cut_at loaded mixed 2)).run) 2
    -- a cut inside a call, and the rest of the list from there
    ∷ case ℕ (after_calls loaded (cut_at loaded single 1)).run.clocks.instants 1
    ∷ case ℕ (moved_now cup_plan (after_calls loaded (cut_at loaded single 1)).run) 2
    ∷ case ℕ (moved_now cup_plan (after_calls loaded (cut_at loaded single 2)).run) 1
    ∷ case ℕ (after_calls (after_calls loaded (cut_at loaded single 1)) (rest_at loaded single 1)).run.clocks.instants 2
    ∷ case ℕ (after_calls (after_calls loaded (cut_at loaded mixed 2)) (rest_at loaded mixed 2)).run.clocks.updates 4
    ∷ case ℕ (budget_sum loaded (rest_at loaded mixed 2)) 3
    -- made all lazy
    ∷ case ℕ (after_calls loaded (all_by Lazy mixed)).run.clocks.updates 3
    ∷ case ℕ (moved_now cup_plan (after_calls loaded (all_by Lazy mixed)).run) 1
    ∷ case ℕ (plain_after cup_plan 5).held.instants 2
    ∷ []

-- every example is right: each pair of values is equal by computation
pub examples_right : AllRight examples
unfolding examples ceil_div limited within count_of number_at bytes_of signed_of unsigned_of flat table row joined every some all first_from
    horizon_in offset_in length_in required_offset count_in part section_in column_of column_in plan_in long_enough offsets_kept count_kept sizes_kept
    horizon_kept count_list counts_kept integrator_kept input_kept node_test pair_ascends node_kept link_limits_kept link_ordered command_limits_kept
    command_ordered refusal_number refusal_entry number_of entry_of is_clean or_else first_finding horizon_finding integrators_finding inputs_finding nodes_finding links_finding
    commands_finding plan_finding finding_of accepted section_of offset_from length_of offset_of file_length header_words integrator_words input_words
    node_words link_words command_words file_words encode node_value value_with value_of sum_over rate_of upper_level lower_level distance ticks_to
    due_tick due_of sets value_then next_entry entry_tick next_command least_due slope_of inputs_then entries_tick next_tick start_slope start_due
    start_of start_state idle_state is_due is_commanded woken gives placed changes_by depends_with link_reaches reached touched position_at moves
    bytes_of_event events_at outputs_by place_by outcome_events due_then figures_after next_tick_of instant events_of bars barring status_number
    status_integrator is_paused status_by status_at status_of running_paused after_run events_of_run position_of settled plain_start plain_next_tick
    plain_position plain_instant plain_events_of plain_status lazy_count plain_from plain_events_from plain_after plain_events nats_zero_from
    ints_zero_from plan_unused_zero plan_sound held_sound moved_unused_zero integrator_sound running_sound is_sound load_of write_number write_of
    buffer_of_write room_of events_most run_number_if_sound run_number ran_state ran_events run_of buffer_of_run position_number positioned_of answer_of
    buffer_of accepted_budget after_calls budget_sum joined_bytes engine_at cut_at rest_at all_by growth growth_up_to is_eager eager_instants lazy_growth
    moved_now
examples_right =
    refl & refl & refl & refl & refl & refl & refl & refl & refl & refl & refl & refl & refl & refl & refl & refl & refl & refl & refl & refl &
    refl & refl & refl & refl & refl & refl & refl & refl & refl & refl & refl & refl & refl & refl & refl & refl & refl & refl & refl & refl &
    refl & refl & refl & refl & refl & refl & refl & refl & refl & refl & refl & refl & refl & refl & refl & refl & refl & refl & refl & refl &
    refl & refl & refl & refl & refl & refl & refl & refl & refl & refl & refl & refl & refl & refl & refl & end
