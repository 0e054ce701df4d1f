-- Worked examples, computed by the checker: document 01's examples P1 to P9 as one table, with one theorem over it about the definitions
-- that the contracts cite. A case is named after its example and what it says of it. Further worked examples of the machine stand in
-- Further.antt.
use Rattle.std.specs.Prelude.{refl, List, [], ◌∷◌, ◌++◌, ℕ, ℤ, pos, negsuc, replicate}
use Rattle.integers.specs.Division.{ceil_div}
use Rattle.integers.specs.Range.{limited, within}
use Rattle.bitset.specs.Counts.{count_of}
use Rattle.words.specs.Word.{number_at, bytes_of, signed_of, unsigned_of, word_of, flat}
use Rattle.plan.specs.Numbers.{sections}
use Rattle.plan.specs.Lists.{int_at, table, row, joined, every, some, all, first_from}
use Rattle.plan.specs.Format.{horizon_in, offset_in, length_in, required_offset, count_in, part, section_in, column_of, column_in, plan_in}
use Rattle.plan.specs.Tests.{long_enough, offsets_kept, count_kept, sizes_kept, horizon_kept, pair_ascends, count_list, counts_kept, integrator_kept, input_kept}
use Rattle.plan.specs.Tests.{link_limits_kept, link_ordered, command_limits_kept, command_ordered}
use Rattle.plan.specs.Refusals.{number_of, is_clean, or_else, first_finding, horizon_finding, integrators_finding, inputs_finding, nodes_finding}
use Rattle.plan.specs.Refusals.{links_finding, commands_finding, plan_finding, finding_of, accepted}
use Rattle.plan.specs.Encoding.{offset_from, header_words, integrator_words, input_words, link_words, command_words, file_words, encode}
use Rattle.plan.specs.Unused.{nats_zero_from, ints_zero_from, plan_unused_zero}
use Rattle.plan.specs.ExampleTables.{Case, case, AllRight, end, ◌&◌}
use Rattle.plan.specs.ExampleFiles.{file_of, cup_file, cup_plan}
use Rattle.plan.specs.declared.Plan.{Plan}
use Rattle.machine.specs.Values.{node_value, value_with, value_of, sum_over, rate_of}
use Rattle.machine.specs.Due.{upper_level, lower_level, distance, ticks_to, due_tick, due_of}
use Rattle.machine.specs.Entries.{sets, value_then, next_entry, entry_tick}
use Rattle.machine.specs.Next.{next_command, least_due}
use Rattle.machine.specs.Held.{slope_of, inputs_then, entries_tick, next_tick}
use Rattle.machine.specs.Start.{start_slope, start_due, start_of, start_state}
use Rattle.machine.specs.Reach.{is_due, is_commanded, woken, gives, placed, changes_by, depends_with, link_reaches, reached, touched}
use Rattle.machine.specs.Instant.{position_at, moves, bytes_of_event, events_at, outputs_by, place_by, outcome_events, due_then, figures_after}
use Rattle.machine.specs.Instant.{next_tick_of, instant, events_of}
use Rattle.machine.specs.Status.{status_number, is_paused, bars, barring, status_by, status_at, status_of, running_paused}
use Rattle.machine.specs.Runs.{after_run, events_of_run, events_most, room_of, position_of}
use Rattle.machine.specs.SoundTest.{plan_sound, held_sound, moved_unused_zero, integrator_sound, running_sound, is_sound}
use Rattle.machine.specs.declared.Engine.{Engine}
use Rattle.machine.specs.declared.Engine.TheVariants.{Lazy, Eager}
use Rattle.listingtext.specs.Decimal.{digits_in, decimal, signed_decimal}
use Rattle.listingtext.specs.Lines.{event_line, end_line, line_at, lines_of}
use Rattle.calls.specs.Calls.{load_of, run_number_if_sound, run_number, ran_state, ran_events, run_of, buffer_of_run, position_number, positioned_of}
use Rattle.calls.specs.declared.Ran.{Ran}
use Rattle.listingturns.specs.Listing.{event_lines, end_line_of, listing_of_run, listing_of}
use Rattle.listingturns.specs.Turns.{turn_state, turn_more, turn_text, begin_text, turns_from, printed_in}

-- ---- P1, "A cup in full"

-- room for 64 instants of the cup, filled with 7
abbrev buffer : List ℕ
buffer = replicate 2304 7

-- what a run answers for a file as it is loaded
abbrev ran : Engine → ℕ → List ℕ → Ran
ran engine budget file = run_of engine (load_of file).state budget buffer

-- "Horizon 10; integrators (0, quantum 10), (0, quantum 1,000); one input, 3; links (0, source 2, 65,536), (1, source 0, 65,536); command tick
-- 6, input 0, −3": `cup_plan` is this number for number, `cup_file` its bytes, with the words of the pairs
abbrev p1_accepted : Case
p1_accepted = case ℕ (load_of cup_file).number 0

abbrev p1_plan : Case
p1_plan = case Plan (load_of cup_file).state.plan cup_plan

abbrev p1_file : Case
p1_file = case (List ℕ) (encode cup_plan) cup_file

-- "Pairs: (44,16) (60,4) (64,0) (64,24) (88,12)."
abbrev p1_pairs : Case
p1_pairs =
    case (List ℕ) (joined (λ k. offset_in cup_file k ∷ length_in cup_file k ∷ []) sections)
    (44 ∷ 16 ∷ 60 ∷ 4 ∷ 64 ∷ 0 ∷ 64 ∷ 24 ∷ 88 ∷ 12 ∷ [])

-- "4 0 12", "6 2 -3", "end 1 6 2 3": the text, and the two events in bytes
abbrev cup_text : List ℕ
cup_text =
    (52 ∷ 32 ∷ 48 ∷ 32 ∷ 49 ∷ 50 ∷ 10 ∷ [])
    ++ (54 ∷ 32 ∷ 50 ∷ 32 ∷ 45 ∷ 51 ∷ 10 ∷ [])
    ++ (101 ∷ 110 ∷ 100 ∷ 32 ∷ 49 ∷ 32 ∷ 54 ∷ 32 ∷ 50 ∷ 32 ∷ 51 ∷ 10 ∷ [])

abbrev pub cup_events : List ℕ
cup_events = 4 ∷ 0 ∷ 0 ∷ 0 ∷ 0 ∷ 0 ∷ 0 ∷ 0 ∷ 12 ∷ 0 ∷ 0 ∷ 0 ∷ 6 ∷ 0 ∷ 0 ∷ 0 ∷ 2 ∷ 0 ∷ 0 ∷ 0 ∷ 253 ∷ 255 ∷ 255 ∷ 255 ∷ []

-- the listing of the whole run, and what the program's loop prints in its one turn of budget 64
abbrev p1_listing : Case
p1_listing = case (List ℕ) (listing_of cup_file) cup_text

abbrev p1_printed : Case
p1_printed = case (List ℕ) (printed_in 1 cup_file) cup_text

-- status, clock, instants, updates
abbrev p1_end : Case
p1_end =
    let answer = ran Lazy 64 cup_file in
    case (List ℕ) (answer.status ∷ answer.state.run.clocks.clock ∷ answer.state.run.clocks.instants ∷ answer.state.run.clocks.updates ∷ []) (1 ∷ 6 ∷ 2 ∷ 3 ∷ [])

abbrev p1_lazy-events : Case
p1_lazy-events = case (List ℕ) (buffer_of_run Lazy (load_of cup_file).state 64 buffer) (cup_events ++ replicate 2280 7)

abbrev p1_eager_events : Case
p1_eager_events = case (List ℕ) (buffer_of_run Eager (load_of cup_file).state 64 buffer) (cup_events ++ replicate 2280 7)

-- "Eager updates are 4."
abbrev p1_eager_end : Case
p1_eager_end =
    let answer = ran Eager 64 cup_file in
    case (List ℕ) (answer.status ∷ answer.state.run.clocks.clock ∷ answer.state.run.clocks.instants ∷ answer.state.run.clocks.updates ∷ []) (1 ∷ 6 ∷ 2 ∷ 4 ∷ [])

-- "At clock 6 the positions are 18 and 24."
abbrev p1_lazy-positions : Case
p1_lazy-positions = case (List ℤ) (table 2 (λ i. (positioned_of (ran Lazy 64 cup_file).state i).value)) (pos 18 ∷ pos 24 ∷ [])

abbrev p1_eager_positions : Case
p1_eager_positions = case (List ℤ) (table 2 (λ i. (positioned_of (ran Eager 64 cup_file).state i).value)) (pos 18 ∷ pos 24 ∷ [])

-- ---- P2 to P5

-- the file of ten ticks of an integrator of this start and quantum, with one input and a link from it of this coefficient
abbrev pub pump_file : (start : ℤ) (quantum : ℕ) (value coefficient : ℤ) → List ℕ
pump_file start quantum value coefficient = file_of 10 (word_of start ∷ quantum ∷ []) (word_of value ∷ []) [] (0 ∷ 1 ∷ word_of coefficient ∷ []) []

-- d of an integrator of position x, output q, quantum D and slope s. From l = 0, so that it is T
abbrev due : (x q : ℤ) (quantum : ℕ) (s : ℤ) → ℕ
due x q D s = due_of (plan_in (pump_file (pos 0) D (pos 0) (pos 1))) (q ∷ []) 0 0 x s

-- "x=q=0, D=10, s=3: T 4."
abbrev p2_rising : Case
p2_rising = case ℕ (due (pos 0) (pos 0) 10 (pos 3)) 4

-- "x=18, q=12, D=10, s=−3: T 6."
abbrev p3_falling : Case
p3_falling = case ℕ (due (pos 18) (pos 12) 10 (negsuc 2)) 6

-- "s=0: never.", which is 2^32 − 1
abbrev p4_still : Case
p4_still = case ℕ (due (pos 0) (pos 0) 10 (pos 0)) 4294967295

-- "x=q=0, D=10: s=9 gives 2, s=10 gives 1, s=11 gives 1 with next output 11."
abbrev p5_below : Case
p5_below = case ℕ (due (pos 0) (pos 0) 10 (pos 9)) 2

abbrev p5_at : Case
p5_at = case ℕ (due (pos 0) (pos 0) 10 (pos 10)) 1

abbrev p5_above : Case
p5_above = case ℕ (due (pos 0) (pos 0) 10 (pos 11)) 1

abbrev p5_next-output : Case
p5_next-output = case ℤ (int_at (ran Lazy 1 (pump_file (pos 0) 10 (pos 11) (pos 65536))).state.run.q 0) (pos 11)

-- ---- P6: "Sums −1, −65,536, 65,535, 65,536 give slopes −1, −1, 0, 1."

-- four integrators, each with a link of coefficient 1 from an input of its own
abbrev sums_file : List ℕ
sums_file =
    file_of 10 (0 ∷ 10 ∷ 0 ∷ 10 ∷ 0 ∷ 10 ∷ 0 ∷ 10 ∷ []) (word_of (negsuc 0) ∷ word_of (negsuc 65535) ∷ 65535 ∷ 65536 ∷ []) []
    (0 ∷ 4 ∷ 1 ∷ 1 ∷ 5 ∷ 1 ∷ 2 ∷ 6 ∷ 1 ∷ 3 ∷ 7 ∷ 1 ∷ []) []

abbrev p6_sums : Case
p6_sums =
    let p = (load_of sums_file).state.plan in
    case (List ℤ) (table 4 (λ i. sum_over p p.integrators.starts p.inputs.firsts i p.counts.links)) (negsuc 0 ∷ negsuc 65535 ∷ pos 65535 ∷ pos 65536 ∷ [])

abbrev p6_slopes : Case
p6_slopes = case (List ℤ) (load_of sums_file).state.run.s (negsuc 0 ∷ negsuc 0 ∷ pos 0 ∷ pos 1 ∷ replicate 28 (pos 0))

-- ---- P7 and P8

-- "Node 1 with 1 and −1: −1."
abbrev p7_product : Case
p7_product = case ℤ (node_value 1 (pos 1) (negsuc 0) (pos 0) (pos 0)) (negsuc 0)

-- "Node 3 with a=b: hi.": lo is 1, hi is 2
abbrev p8_comparison : Case
p8_comparison = case ℤ (node_value 3 (pos 7) (pos 7) (pos 1) (pos 2)) (pos 2)

-- ---- P9: "Due value M passes, M+1 bars."

-- from M−1 on, due at tick 1, by a slope of 1 and of 2
abbrev passing_file : List ℕ
passing_file = pump_file (pos 1073741823) 1 (pos 1) (pos 65536)

abbrev barred_file : List ℕ
barred_file = pump_file (pos 1073741823) 1 (pos 2) (pos 65536)

-- the value at tick 1 of the integrator that is due then
abbrev due_value : List ℕ → ℤ
due_value file = position_at (load_of file).state.run 1 0

abbrev p9_m : Case
p9_m = case ℤ (due_value passing_file) (pos 1073741824)

abbrev p9_m_passes : Case
p9_m_passes = case ℕ (ran Lazy 0 passing_file).status 0

abbrev p9_m-taken : Case
p9_m-taken = case ℤ (int_at (ran Lazy 1 passing_file).state.run.q 0) (pos 1073741824)

abbrev p9_above-m : Case
p9_above-m = case ℤ (due_value barred_file) (pos 1073741825)

abbrev p9_above-m-bars : Case
p9_above-m-bars = case ℕ (ran Lazy 1 barred_file).status 2

abbrev p9_above-m_not_taken : Case
p9_above-m_not_taken = case ℕ (ran Lazy 1 barred_file).state.run.clocks.instants 0

pub p1_to_p9 : List Case
p1_to_p9 =
    p1_accepted ∷ p1_plan ∷ p1_file ∷ p1_pairs ∷ p1_listing ∷ p1_printed ∷ p1_end ∷ p1_lazy-events ∷ p1_eager_events ∷ p1_eager_end
    ∷ p1_lazy-positions ∷ p1_eager_positions
    ∷ p2_rising ∷ p3_falling ∷ p4_still ∷ p5_below ∷ p5_at ∷ p5_above ∷ p5_next-output ∷ p6_sums ∷ p6_slopes ∷ p7_product ∷ p8_comparison
    ∷ p9_m ∷ p9_m_passes ∷ p9_m-taken ∷ p9_above-m ∷ p9_above-m-bars ∷ p9_above-m_not_taken ∷ []

-- every case is right: each pair of values is equal by computation
pub p1_to_p9_right : AllRight p1_to_p9
unfolding p1_to_p9 ceil_div limited within count_of number_at bytes_of signed_of unsigned_of flat table row joined every some all first_from
    horizon_in offset_in length_in required_offset count_in part section_in column_of column_in plan_in long_enough offsets_kept count_kept sizes_kept
    horizon_kept pair_ascends count_list counts_kept integrator_kept input_kept link_limits_kept link_ordered command_limits_kept command_ordered
    number_of is_clean or_else first_finding horizon_finding integrators_finding inputs_finding nodes_finding links_finding commands_finding
    plan_finding finding_of accepted offset_from header_words integrator_words input_words link_words command_words file_words encode nats_zero_from
    ints_zero_from plan_unused_zero node_value value_with value_of sum_over rate_of upper_level lower_level distance ticks_to due_tick due_of sets
    value_then next_entry entry_tick next_command least_due slope_of inputs_then entries_tick next_tick start_slope start_due start_of start_state is_due
    is_commanded woken gives placed changes_by depends_with link_reaches reached touched position_at moves bytes_of_event events_at outputs_by
    place_by outcome_events due_then figures_after next_tick_of instant events_of bars barring status_number is_paused status_by status_at status_of
    running_paused after_run events_of_run position_of plan_sound held_sound moved_unused_zero integrator_sound running_sound is_sound digits_in decimal
    signed_decimal event_line end_line line_at lines_of load_of room_of events_most run_number_if_sound run_number ran_state ran_events run_of buffer_of_run
    position_number positioned_of event_lines end_line_of listing_of_run listing_of turn_state turn_more turn_text begin_text turns_from printed_in
p1_to_p9_right =
    refl & refl & refl & refl & refl & refl & refl & refl & refl & refl & refl & refl & refl & refl & refl & refl & refl & refl & refl & refl &
    refl & refl & refl & refl & refl & refl & refl & refl & refl & end
