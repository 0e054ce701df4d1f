-- Worked examples, computed by the checker: further cases of the machine as a table, with one theorem over it: the cup's states in full,
-- and cases that are easily got wrong. P1 to P9 have a table of their own, in P1toP9.antt.
use Rattle.std.specs.Prelude.{refl, Bool, true, false, List, [], ◌∷◌, ℕ, ℤ, pos, negsuc, eqb, replicate}
use Rattle.integers.specs.Division.{ceil_div}
use Rattle.integers.specs.Range.{limited, within}
use Rattle.bitset.specs.Counts.{count_of}
use Rattle.words.specs.Word.{number_at, bytes_of, signed_of, unsigned_of, word_of, flat}
use Rattle.plan.specs.Lists.{nat_at, int_at, table, row, joined, every, some, all, first_from}
use Rattle.plan.specs.Format.{horizon_in, offset_in, length_in, required_offset, count_in, part, section_in, column_of, column_in, plan_in}
use Rattle.plan.specs.Tests.{long_enough, offsets_kept, count_kept, sizes_kept, horizon_kept, node_test, pair_ascends, count_list, counts_kept, integrator_kept}
use Rattle.plan.specs.Tests.{input_kept, node_kept, link_limits_kept, link_ordered, command_limits_kept, command_ordered}
use Rattle.plan.specs.Refusals.{number_of, is_clean, or_else, first_finding, horizon_finding, integrators_finding, inputs_finding, nodes_finding}
use Rattle.plan.specs.Refusals.{links_finding, commands_finding, plan_finding, finding_of, accepted}
use Rattle.plan.specs.Encoding.{offset_from, header_words, integrator_words, file_words, encode}
use Rattle.plan.specs.Idle.{idle_plan}
use Rattle.plan.specs.Unused.{nats_zero_from, ints_zero_from, plan_unused_zero}
use Rattle.plan.specs.ExampleTables.{Case, case, AllRight, end, ◌&◌}
use Rattle.plan.specs.ExampleFiles.{file_of, cup_plan}
use Rattle.plan.specs.declared.Plan.{Plan}
use Rattle.machine.specs.Values.{node_value, value_with, value_of, sum_over, rate_of}
use Rattle.machine.specs.Due.{upper_level, lower_level, distance, ticks_to, due_tick, due_of}
use Rattle.machine.specs.Entries.{sets, value_then, next_entry, entry_tick}
use Rattle.machine.specs.Next.{next_command, least_due}
use Rattle.machine.specs.Held.{slope_of, held_start, inputs_then, entries_tick, next_tick}
use Rattle.machine.specs.Start.{start_slope, start_due, start_of, start_state, idle_state}
use Rattle.machine.specs.Reach.{is_due, is_commanded, woken, gives, placed, changes_by, changes, depends_with, link_reaches, reached, touched}
use Rattle.machine.specs.Instant.{position_at, moves, bytes_of_event, events_at, outputs_by, place_by, outcome_events, due_then, figures_after}
use Rattle.machine.specs.Instant.{next_tick_of, instant, events_of}
use Rattle.machine.specs.Status.{status_number, status_integrator, is_paused, bars, barring, status_by, status_at, status_of, running_paused}
use Rattle.machine.specs.Runs.{after_run, events_of_run, position_of}
use Rattle.machine.specs.Plain.{settled, plain_start, plain_next_tick, plain_position, plain_instant, plain_status}
use Rattle.machine.specs.Plain.{plain_events_of, plain_events_from, plain_events, lazy_count, plain_from, plain_after}
use Rattle.machine.specs.SoundTest.{plan_sound, held_sound, moved_unused_zero, integrator_sound, running_sound, is_sound}
use Rattle.machine.specs.declared.Running.{Running}
use Rattle.machine.specs.declared.State.{State}
use Rattle.machine.specs.declared.Engine.TheVariants.{Lazy, Eager}
use Rattle.workedexamples.specs.P1toP9.{cup_events, pump_file}

-- M and −M
abbrev m : ℤ
m = pos 1073741824

abbrev minus_m_lem : ℤ
minus_m_lem = negsuc 1073741823

-- ---- the plans, each of its file's bytes

-- one integrator fed by one input
abbrev pump : (start : ℤ) (quantum : ℕ) (value coefficient : ℤ) → Plan
pump start quantum value coefficient = plan_in (pump_file start quantum value coefficient)

-- integrator 0 fed by an input of 3; integrator 1 by a node of kind 2, whose A is that input and whose B is 0 and names nothing
abbrev limit_file : List ℕ
limit_file =
    file_of 10 (0 ∷ 10 ∷ 0 ∷ 1000 ∷ []) (3 ∷ []) (2 ∷ 2 ∷ 0 ∷ word_of (negsuc 4) ∷ 5 ∷ []) (0 ∷ 2 ∷ 65536 ∷ 1 ∷ 3 ∷ 65536 ∷ []) []

-- the same with a node of kind 0, which names integrator 0 by B; a second node over the first one feeds integrator 1
abbrev chain_file : List ℕ
chain_file =
    file_of 10 (0 ∷ 10 ∷ 0 ∷ 1000 ∷ []) (3 ∷ []) (0 ∷ 2 ∷ 0 ∷ 0 ∷ 0 ∷ 2 ∷ 3 ∷ 0 ∷ word_of minus_m_lem ∷ 1073741824 ∷ [])
    (0 ∷ 2 ∷ 65536 ∷ 1 ∷ 4 ∷ 65536 ∷ []) []

-- two integrators that feed each other, both fed by an input of 10
abbrev pair_file : List ℕ
pair_file =
    file_of 10 (0 ∷ 10 ∷ 0 ∷ 10 ∷ []) (10 ∷ []) [] (0 ∷ 1 ∷ 65536 ∷ 0 ∷ 2 ∷ 65536 ∷ 1 ∷ 0 ∷ 65536 ∷ 1 ∷ 2 ∷ 65536 ∷ []) []

-- three integrators that are due at tick 1; the outputs of the last two are then beyond M. A command stands at the same tick
abbrev range_file : List ℕ
range_file =
    file_of 10 (0 ∷ 5 ∷ 1073741823 ∷ 5 ∷ 1073741822 ∷ 5 ∷ []) (5 ∷ []) [] (0 ∷ 3 ∷ 65536 ∷ 1 ∷ 3 ∷ 65536 ∷ 2 ∷ 3 ∷ 65536 ∷ [])
    (1 ∷ 0 ∷ 7 ∷ [])

-- one integrator that nothing feeds; two inputs, both set at tick 2, and the second again at the horizon, to the value that it has
abbrev commands_file : List ℕ
commands_file = file_of 10 (0 ∷ 1 ∷ []) (1 ∷ 2 ∷ []) [] [] (2 ∷ 0 ∷ 7 ∷ 2 ∷ 1 ∷ word_of (negsuc 7) ∷ 10 ∷ 1 ∷ word_of (negsuc 7) ∷ [])

-- integrator 0 is due at tick 4, when a command sets its input too; its link to integrator 1 has a coefficient below 0
abbrev meet_file : List ℕ
meet_file =
    file_of 10 (0 ∷ 10 ∷ 0 ∷ 1000 ∷ []) (3 ∷ []) [] (0 ∷ 2 ∷ 65536 ∷ 1 ∷ 0 ∷ word_of (negsuc 65535) ∷ []) (4 ∷ 0 ∷ 5 ∷ [])

-- a product and a comparison whose B is integrator 0; the comparison's A is commanded at tick 5
abbrev operands_file : List ℕ
operands_file =
    file_of 10 (0 ∷ 10 ∷ 0 ∷ 1000 ∷ 0 ∷ 1000 ∷ []) (3 ∷ 5 ∷ []) (1 ∷ 3 ∷ 0 ∷ 0 ∷ 0 ∷ 3 ∷ 4 ∷ 0 ∷ word_of (negsuc 6) ∷ 9 ∷ [])
    (0 ∷ 3 ∷ 65536 ∷ 1 ∷ 5 ∷ 65536 ∷ 2 ∷ 6 ∷ 65536 ∷ []) (5 ∷ 1 ∷ 20 ∷ [])

-- integrator 0 is due at tick 1; integrator 1 is then beyond M, and not due
abbrev beyond_file : List ℕ
beyond_file = file_of 10 (0 ∷ 5 ∷ 1073741824 ∷ 1000 ∷ []) (5 ∷ []) [] (0 ∷ 2 ∷ 65536 ∷ 1 ∷ 2 ∷ 65536 ∷ []) []

-- timed entries: two of tick 2, for the numbers 0 and 1, one of tick 3 for number 1, and two of tick 5 for number 0
abbrev ticks : List ℕ
ticks = 2 ∷ 2 ∷ 3 ∷ 5 ∷ 5 ∷ []

abbrev numbers : List ℕ
numbers = 0 ∷ 1 ∷ 1 ∷ 0 ∷ 0 ∷ []

-- ---- what the cases say of them
abbrev for_number0 : ℕ → Bool
for_number0 e = eqb (nat_at numbers e) 0

-- the value of a number, which was 1, after those of the first `count` entries that are of tick t
abbrev value_after : (t number count : ℕ) → ℤ
value_after t number count = value_then ticks numbers (pos 7 ∷ negsuc 7 ∷ pos 4 ∷ pos 9 ∷ pos 6 ∷ []) t number (pos 1) count

-- the cup's integrator i is due or reached at tick t, with the due ticks d
abbrev cup_touched : (d : List ℕ) (t i : ℕ) → Bool
cup_touched d t i = touched cup_plan t (is_due d t) i

abbrev lazily : Plan → ℕ → Running
lazily p b = after_run p Lazy b (start_of p)

abbrev eagerly : Plan → ℕ → Running
eagerly p b = after_run p Eager b (start_of p)

-- d of the cup's first integrator, whose quantum is 10, from l = 0
abbrev due_from : ℤ → ℤ → ℤ → ℕ
due_from x q s = due_of cup_plan (q ∷ []) 0 0 x s

-- running figures of the cup: positions, slopes, last-moved and due ticks of its two integrators, clock, next command, instants, updates
abbrev figures : (x0 x1 s0 s1 : ℤ) (l0 l1 d0 d1 clock next instants updates : ℕ) → Running
figures x0 x1 s0 s1 l0 l1 d0 d1 clock next instants updates = record {
  x = x0 ∷ x1 ∷ replicate 30 (pos 0);
  q = pos 12 ∷ replicate 31 (pos 0);
  s = s0 ∷ s1 ∷ replicate 30 (pos 0);
  l = l0 ∷ l1 ∷ replicate 30 0;
  d = d0 ∷ d1 ∷ replicate 30 0;
  inputs = pos 3 ∷ replicate 7 (pos 0);
  clocks = record { clock = clock; next = next; instants = instants; updates = updates };
}

abbrev sound : Running → Bool
sound r = is_sound (record { plan = cup_plan; run = r })

-- the cup after its first instant, with other positions and outputs
abbrev cup_with : List ℤ → List ℤ → Running
cup_with x q = record {
  x = x;
  q = q;
  s = pos 3 ∷ pos 12 ∷ replicate 30 (pos 0);
  l = 4 ∷ 4 ∷ replicate 30 0;
  d = 8 ∷ 88 ∷ replicate 30 0;
  inputs = pos 3 ∷ replicate 7 (pos 0);
  clocks = record { clock = 4; next = 0; instants = 1; updates = 2 };
}

-- and with another horizon, another count of inputs and other starts in its plan
abbrev planned : ℕ → ℕ → List ℤ → State
planned horizon inputs starts = record {
  plan = record {
    horizon = horizon;
    counts = record {
      n = cup_plan.counts.n;
      m = inputs;
      k = cup_plan.counts.k;
      links = cup_plan.counts.links;
      commands = cup_plan.counts.commands;
    };
    integrators = record { starts = starts; quanta = cup_plan.integrators.quanta };
    inputs = cup_plan.inputs;
    nodes = cup_plan.nodes;
    links = cup_plan.links;
    commands = cup_plan.commands;
  };
  run = cup_with (pos 12 ∷ replicate 31 (pos 0)) (pos 12 ∷ replicate 31 (pos 0));
}

-- the start of the plan of two inputs that feed nothing, with another value of the first
abbrev input : ℤ → State
input value =
    let start = start_of (plan_in commands_file) in
    record {
      plan = plan_in commands_file;
      run = record {
        x = start.x;
        q = start.q;
        s = start.s;
        l = start.l;
        d = start.d;
        inputs = value ∷ pos 2 ∷ replicate 6 (pos 0);
        clocks = start.clocks;
      };
    }

pub further : List Case
further =
    -- the cup by the plain machine: its events; status, clock and instants; positions
    case (List ℕ) (plain_events cup_plan 64) cup_events
    ∷ case (List ℕ) (status_number (plain_status cup_plan (plain_after cup_plan 64)) ∷ (plain_after cup_plan 64).clock ∷ (plain_after cup_plan 64).held.instants ∷ []) (1 ∷ 6 ∷ 2 ∷ [])
    ∷ case (List ℤ) (plain_after cup_plan 64).x (pos 18 ∷ pos 24 ∷ replicate 30 (pos 0))
    -- the cup at its end: finished names no integrator; outputs, slopes and due ticks by the plain machine and by the lazy engine; and what the
    -- lazy engine moves at each of the two instants, with the plain machine's due ticks
    ∷ case ℕ (status_integrator (plain_status cup_plan (plain_after cup_plan 64))) 0
    ∷ case ℕ (status_integrator (status_of cup_plan (lazily cup_plan 64))) 0
    ∷ case (List ℤ) (plain_after cup_plan 64).held.q (pos 12 ∷ replicate 31 (pos 0))
    ∷ case (List ℤ) (plain_after cup_plan 64).s (negsuc 2 ∷ pos 12 ∷ replicate 30 (pos 0))
    ∷ case (List ℕ) (plain_after cup_plan 64).d (12 ∷ 88 ∷ replicate 30 0)
    ∷ case (List ℤ) (lazily cup_plan 64).q (pos 12 ∷ replicate 31 (pos 0))
    ∷ case (List ℤ) (lazily cup_plan 64).s (negsuc 2 ∷ pos 12 ∷ replicate 30 (pos 0))
    ∷ case (List ℕ) (lazily cup_plan 64).d (12 ∷ 88 ∷ replicate 30 0)
    ∷ case ℕ (lazy_count cup_plan (plain_after cup_plan 0)) 2
    ∷ case ℕ (lazy_count cup_plan (plain_after cup_plan 1)) 1
    -- the whole state after its first instant: what is due gives its position, what is reached keeps its output, unused entries stay 0
    ∷ case Running (lazily cup_plan 1) (figures (pos 12) (pos 0) (pos 3) (pos 12) 4 4 8 88 4 0 1 2)
    -- and at its start
    ∷ case (List ℕ) (start_of cup_plan).d (4 ∷ 4294967295 ∷ replicate 30 0)
    ∷ case (List ℤ) (start_of cup_plan).s (pos 3 ∷ pos 0 ∷ replicate 30 (pos 0))
    ∷ case ℕ (status_number (status_of cup_plan (start_of cup_plan))) 0
    -- past a level, the level ahead is reached after one tick; towards the other one, after the whole distance
    ∷ case ℕ (due_from (pos 25) (pos 12) (pos 3)) 1
    ∷ case ℕ (due_from (pos 22) (pos 12) (pos 3)) 1
    ∷ case ℕ (due_from (negsuc 2) (pos 12) (negsuc 2)) 1
    ∷ case ℕ (due_from (pos 25) (pos 12) (negsuc 2)) 8
    ∷ case ℕ (due_from (negsuc 2) (pos 12) (pos 3)) 9
    -- the kinds of nodes: differences and products are clipped to ±M, products are rounded down
    ∷ case ℤ (node_value 3 (pos 7) (pos 8) (pos 1) (pos 2)) (pos 1)
    ∷ case ℤ (node_value 3 (pos 8) (pos 7) (pos 1) (pos 2)) (pos 2)
    ∷ case ℤ (node_value 0 (pos 5) (pos 8) (pos 0) (pos 0)) (negsuc 2)
    ∷ case ℤ (node_value 0 m minus_m_lem (pos 0) (pos 0)) m
    ∷ case ℤ (node_value 0 minus_m_lem m (pos 0) (pos 0)) minus_m_lem
    ∷ case ℤ (node_value 1 m m (pos 0) (pos 0)) m
    ∷ case ℤ (node_value 1 m minus_m_lem (pos 0) (pos 0)) minus_m_lem
    ∷ case ℤ (node_value 1 (pos 131072) (pos 3) (pos 0) (pos 0)) (pos 6)
    ∷ case ℤ (node_value 2 (pos 6) (pos 0) (negsuc 4) (pos 5)) (pos 5)
    ∷ case ℤ (node_value 2 (negsuc 5) (pos 0) (negsuc 4) (pos 5)) (negsuc 4)
    ∷ case ℤ (node_value 2 (pos 4) (pos 9) (negsuc 4) (pos 5)) (pos 4)
    -- a due value of −M passes, −M − 1 bars
    ∷ case ℤ (int_at (lazily (pump (negsuc 1073741822) 1 (negsuc 0) (pos 65536)) 1).q 0) minus_m_lem
    ∷ case ℕ (status_number (status_of (pump (negsuc 1073741822) 1 (negsuc 1) (pos 65536)) (lazily (pump (negsuc 1073741822) 1 (negsuc 1) (pos 65536)) 0))) 2
    -- finished goes before range: the value would be beyond M, but its tick is above the horizon
    ∷ case ℕ (status_number (status_of (pump (pos 1073741823) 100 (pos 9) (pos 65536)) (start_of (pump (pos 1073741823) 100 (pos 9) (pos 65536))))) 1
    -- the due integrator 0 is no operand of a node of kind 2 whose B is 0, so the integrator that the node feeds is not reached; by kind 0 it is, through
    -- a second node too
    ∷ case Bool (accepted limit_file) true
    ∷ case Bool (reached (plan_in limit_file) (changes (plan_in limit_file) (start_of (plan_in limit_file)).d 4) 1) false
    ∷ case ℕ (lazily (plan_in limit_file) 1).clocks.updates 1
    ∷ case Bool (accepted chain_file) true
    ∷ case Bool (reached (plan_in chain_file) (changes (plan_in chain_file) (start_of (plan_in chain_file)).d 4) 1) true
    ∷ case ℕ (lazily (plan_in chain_file) 1).clocks.updates 2
    ∷ case (List ℤ) (lazily (plan_in chain_file) 1).s (pos 3 ∷ negsuc 8 ∷ replicate 30 (pos 0))
    -- two that are due at one tick: both outputs are set before either slope is taken
    ∷ case Bool (accepted pair_file) true
    ∷ case (List ℤ) (lazily (plan_in pair_file) 1).q (pos 10 ∷ pos 10 ∷ replicate 30 (pos 0))
    ∷ case (List ℤ) (lazily (plan_in pair_file) 1).s (pos 20 ∷ pos 20 ∷ replicate 30 (pos 0))
    ∷ case ℕ (lazily (plan_in pair_file) 1).clocks.updates 2
    -- range names the lowest integrator beyond ±M, not the lowest that is due, and bars that tick's command too
    ∷ case Bool (accepted range_file) true
    ∷ case ℕ (next_tick_of (plan_in range_file) (start_of (plan_in range_file))) 1
    ∷ case ℕ (status_number (status_of (plan_in range_file) (start_of (plan_in range_file)))) 2
    ∷ case ℕ (status_integrator (status_of (plan_in range_file) (start_of (plan_in range_file)))) 1
    ∷ case ℕ (lazily (plan_in range_file) 5).clocks.clock 0
    ∷ case ℤ (int_at (lazily (plan_in range_file) 5).inputs 0) (pos 5)
    ∷ case (List ℕ) (events_of_run (plan_in range_file) Eager 5 (start_of (plan_in range_file))) []
    ∷ case ℕ (status_integrator (plain_status (plan_in range_file) (plain_after (plan_in range_file) 5))) 1
    -- two commands at one tick are one instant, by ascending source; a command that repeats a value, at the horizon, is obeyed
    ∷ case Bool (accepted commands_file) true
    ∷ case (List ℕ) (events_of_run (plan_in commands_file) Lazy 1 (start_of (plan_in commands_file))) (2 ∷ 0 ∷ 0 ∷ 0 ∷ 1 ∷ 0 ∷ 0 ∷ 0 ∷ 7 ∷ 0 ∷ 0 ∷ 0 ∷ 2 ∷ 0 ∷ 0 ∷ 0 ∷ 2 ∷ 0 ∷ 0 ∷ 0 ∷ 248 ∷ 255 ∷ 255 ∷ 255 ∷ [])
    ∷ case ℕ (lazily (plan_in commands_file) 1).clocks.next 2
    ∷ case (List ℤ) (lazily (plan_in commands_file) 1).inputs (pos 7 ∷ negsuc 7 ∷ replicate 6 (pos 0))
    ∷ case ℕ (lazily (plan_in commands_file) 64).clocks.instants 2
    ∷ case ℕ (lazily (plan_in commands_file) 64).clocks.clock 10
    ∷ case ℕ (lazily (plan_in commands_file) 64).clocks.next 3
    ∷ case ℕ (lazily (plan_in commands_file) 64).clocks.updates 0
    ∷ case ℕ (eagerly (plan_in commands_file) 64).clocks.updates 2
    -- due and commanded at one tick: events by ascending source, a coefficient below 0, both new values in the slopes, each level by its
    -- own quantum
    ∷ case Bool (accepted meet_file) true
    ∷ case (List ℕ) (events_of_run (plan_in meet_file) Lazy 1 (start_of (plan_in meet_file)))
    (4 ∷ 0 ∷ 0 ∷ 0 ∷ 0 ∷ 0 ∷ 0 ∷ 0 ∷ 12 ∷ 0 ∷ 0 ∷ 0 ∷ 4 ∷ 0 ∷ 0 ∷ 0 ∷ 2 ∷ 0 ∷ 0 ∷ 0 ∷ 5 ∷ 0 ∷ 0 ∷ 0 ∷ [])
    ∷ case (List ℤ) (lazily (plan_in meet_file) 1).s (pos 5 ∷ negsuc 11 ∷ replicate 30 (pos 0))
    ∷ case (List ℕ) (lazily (plan_in meet_file) 1).d (6 ∷ 88 ∷ replicate 30 0)
    ∷ case (List ℤ) (plain_after (plan_in meet_file) 1).held.inputs (pos 5 ∷ replicate 7 (pos 0))
    ∷ case ℕ (lazily (plan_in meet_file) 1).clocks.updates 2
    -- a product and a comparison depend on their B; a comparison on a commanded A
    ∷ case Bool (accepted operands_file) true
    ∷ case ℕ (lazily (plan_in operands_file) 1).clocks.updates 3
    ∷ case ℕ (lazily (plan_in operands_file) 2).clocks.updates 4
    ∷ case (List ℤ) (lazily (plan_in operands_file) 1).s (pos 3 ∷ pos 0 ∷ negsuc 6 ∷ replicate 29 (pos 0))
    ∷ case (List ℤ) (lazily (plan_in operands_file) 2).s (pos 3 ∷ pos 0 ∷ pos 9 ∷ replicate 29 (pos 0))
    -- an integrator beyond M that is not due bars nothing
    ∷ case Bool (accepted beyond_file) true
    ∷ case ℕ (status_number (status_of (plan_in beyond_file) (start_of (plan_in beyond_file)))) 0
    ∷ case ℕ (lazily (plan_in beyond_file) 1).clocks.instants 1
    ∷ case ℤ (position_of (lazily (plan_in beyond_file) 1) 1) (pos 1073741829)
    -- timed entries: the next one is the first with a tick above the clock; one that does not count is passed over; one beyond the count is none;
    -- where none is left the next one is the count, and its tick never
    ∷ case ℕ (next_entry ticks (λ e. true) 5 0) 0
    ∷ case ℕ (next_entry ticks (λ e. true) 5 2) 2
    ∷ case ℕ (next_entry ticks for_number0 5 2) 3
    ∷ case ℕ (entry_tick ticks 5 2) 3
    ∷ case ℕ (entry_tick ticks 5 3) 5
    ∷ case ℕ (next_entry ticks (λ e. true) 3 3) 3
    ∷ case ℕ (entry_tick ticks 3 3) 4294967295
    ∷ case ℕ (next_entry ticks for_number0 5 5) 5
    ∷ case ℕ (entry_tick ticks 5 5) 4294967295
    -- what they set: two of one tick each their own number; one of another tick, or for another number, nothing; of two for one number the later counts
    ∷ case Bool (sets ticks numbers 2 1 1) true
    ∷ case Bool (sets ticks numbers 2 1 2) false
    ∷ case ℤ (value_after 2 0 5) (pos 7)
    ∷ case ℤ (value_after 2 1 5) (negsuc 7)
    ∷ case ℤ (value_after 4 1 5) (pos 1)
    ∷ case ℤ (value_after 3 0 5) (pos 1)
    ∷ case ℤ (value_after 5 0 5) (pos 6)
    ∷ case ℤ (value_after 5 0 4) (pos 9)
    -- a plan's entries: the cup's command, and none behind its tick
    ∷ case ℕ (entries_tick cup_plan (held_start cup_plan)) 6
    ∷ case ℕ (entries_tick cup_plan (plain_after cup_plan 64).held) 4294967295
    -- due or reached: at tick 4 the cup's integrator 0 is due and not reached, and integrator 1 reached and not due; at tick 6, with the due ticks
    -- after that, integrator 0 is reached by the command and integrator 1 is neither; at tick 5 nothing happens
    ∷ case Bool (reached cup_plan (changes cup_plan (4 ∷ 4294967295 ∷ []) 4) 0) false
    ∷ case Bool (cup_touched (4 ∷ 4294967295 ∷ []) 4 0) true
    ∷ case Bool (is_due (4 ∷ 4294967295 ∷ []) 4 1) false
    ∷ case Bool (cup_touched (4 ∷ 4294967295 ∷ []) 4 1) true
    ∷ case Bool (cup_touched (8 ∷ 88 ∷ []) 6 0) true
    ∷ case Bool (cup_touched (8 ∷ 88 ∷ []) 6 1) false
    ∷ case Bool (cup_touched (8 ∷ 88 ∷ []) 5 0) false
    -- idle: its due tick is never, it is finished, and its unused entries are 0
    ∷ case ℕ (nat_at idle_state.run.d 0) 4294967295
    ∷ case ℕ (nat_at idle_state.run.d 1) 0
    ∷ case ℕ (status_number (status_of idle_state.plan idle_state.run)) 1
    ∷ case State (start_state (plan_in (encode idle_plan))) idle_state
    -- sound states: loaded, idle, after runs; between two instants with no instant counted
    ∷ case Bool (is_sound (start_state cup_plan)) true
    ∷ case Bool (is_sound idle_state) true
    ∷ case Bool (sound (lazily cup_plan 64)) true
    ∷ case Bool (sound (eagerly cup_plan 64)) true
    ∷ case Bool (sound (figures (pos 12) (pos 0) (pos 3) (pos 12) 4 4 8 88 5 0 0 0)) true
    ∷ case Bool (sound (figures (pos 13) (pos 1) (pos 3) (pos 12) 4 4 7 88 4 0 4 8)) true
    -- and states that are not: x at a level, a wrong slope, a wrong due tick, l above c, c at d, c above the horizon, a wrong next command,
    -- too many instants, too many updates
    ∷ case Bool (sound (figures (pos 22) (pos 0) (pos 3) (pos 12) 4 4 5 88 4 0 1 2)) false
    ∷ case Bool (sound (figures (pos 2) (pos 0) (pos 3) (pos 12) 4 4 11 88 4 0 1 2)) false
    ∷ case Bool (sound (figures (pos 12) (pos 0) (pos 3) (pos 11) 4 4 8 95 4 0 1 2)) false
    ∷ case Bool (sound (figures (pos 12) (pos 0) (pos 3) (pos 12) 4 4 9 88 4 0 1 2)) false
    ∷ case Bool (sound (figures (pos 12) (pos 0) (pos 3) (pos 12) 5 4 9 88 4 0 1 2)) false
    ∷ case Bool (sound (figures (pos 12) (pos 0) (pos 3) (pos 12) 4 4 8 88 8 1 1 2)) false
    ∷ case Bool (sound (figures (pos 12) (pos 0) (pos 3) (pos 12) 10 10 14 94 11 1 1 2)) false
    ∷ case Bool (sound (figures (pos 12) (pos 0) (pos 3) (pos 12) 4 4 8 88 4 1 1 2)) false
    ∷ case Bool (sound (figures (pos 12) (pos 0) (pos 3) (pos 12) 4 4 8 88 4 0 5 2)) false
    ∷ case Bool (sound (figures (pos 12) (pos 0) (pos 3) (pos 12) 4 4 8 88 4 0 1 3)) false
    -- |q| ≤ M and inputs within ±M, at the limit and above; an unused entry of the running figures and of the plan; a rule of the plan; a
    -- count outside its limits
    ∷ case Bool (sound (cup_with (pos 12 ∷ m ∷ replicate 30 (pos 0)) (pos 12 ∷ m ∷ replicate 30 (pos 0)))) true
    ∷ case Bool (sound (cup_with (pos 12 ∷ pos 1073741825 ∷ replicate 30 (pos 0)) (pos 12 ∷ pos 1073741825 ∷ replicate 30 (pos 0)))) false
    ∷ case Bool (is_sound (input minus_m_lem)) true
    ∷ case Bool (is_sound (input (pos 1073741825))) false
    ∷ case Bool (sound (cup_with (pos 12 ∷ pos 0 ∷ pos 1 ∷ replicate 29 (pos 0)) (pos 12 ∷ replicate 31 (pos 0)))) false
    ∷ case Bool (is_sound (planned 10 1 (replicate 32 (pos 0)))) true
    ∷ case Bool (is_sound (planned 10 1 (pos 0 ∷ pos 0 ∷ pos 1 ∷ replicate 29 (pos 0)))) false
    ∷ case Bool (is_sound (planned 2000000001 1 (replicate 32 (pos 0)))) false
    ∷ case Bool (is_sound (planned 10 9 (replicate 32 (pos 0)))) false
    ∷ []

-- every case is right: each pair of values is equal by computation
pub further_right : AllRight further
unfolding further ceil_div limited within count_of number_at bytes_of signed_of unsigned_of flat table row joined every some all first_from
    horizon_in offset_in length_in required_offset count_in part section_in column_of column_in plan_in long_enough offsets_kept count_kept sizes_kept
    horizon_kept node_test pair_ascends count_list counts_kept integrator_kept input_kept node_kept link_limits_kept link_ordered command_limits_kept
    command_ordered number_of is_clean or_else first_finding horizon_finding integrators_finding inputs_finding nodes_finding links_finding
    commands_finding plan_finding finding_of accepted offset_from header_words integrator_words file_words encode nats_zero_from ints_zero_from
    plan_unused_zero node_value value_with value_of sum_over rate_of upper_level lower_level distance ticks_to due_tick due_of sets value_then next_entry
    entry_tick next_command least_due slope_of inputs_then entries_tick next_tick start_slope start_due start_of start_state idle_state is_due
    is_commanded woken gives placed changes_by depends_with link_reaches reached touched position_at moves bytes_of_event events_at outputs_by
    place_by outcome_events due_then figures_after next_tick_of instant events_of bars barring status_number status_integrator is_paused status_by
    status_at status_of running_paused after_run events_of_run position_of settled plain_start plain_next_tick plain_position plain_instant plain_status
    plain_events_of plain_events_from plain_events lazy_count plain_from plain_after plan_sound held_sound moved_unused_zero integrator_sound
    running_sound is_sound
further_right =
    refl & refl & refl & refl & refl & refl & refl & refl & refl & refl & refl & refl & refl & refl & refl & refl & refl & refl & refl & refl &
    refl & refl & refl & refl & refl & refl & refl & refl & refl & refl & refl & refl & refl & refl & refl & refl & refl & refl & refl & refl &
    refl & refl & refl & refl & refl & refl & refl & refl & refl & refl & refl & refl & refl & refl & refl & refl & refl & refl & refl & refl &
    refl & refl & refl & refl & refl & refl & refl & refl & refl & refl & refl & refl & refl & refl & refl & refl & refl & refl & refl & refl &
    refl & refl & refl & refl & refl & refl & refl & refl & refl & refl & refl & refl & refl & refl & refl & refl & refl & refl & refl & refl &
    refl & refl & refl & refl & refl & refl & refl & refl & refl & refl & refl & refl & refl & refl & refl & refl & refl & refl & refl & refl &
    refl & refl & refl & refl & refl & refl & refl & refl & refl & refl & refl & refl & refl & refl & end
