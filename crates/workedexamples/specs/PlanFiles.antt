-- Worked examples, computed by the checker: the plan file, with one theorem over their table: "A cup in full" decoded, encoded and taken
-- apart, and a file for each refusal and for the limits that are easily missed.
use Rattle.std.specs.Prelude.{refl, Bool, true, List, [], ◌∷◌, ◌++◌, ℕ, pos, negsuc, length, take, drop, replicate, Ok, Err}
use Rattle.integers.specs.Range.{within}
use Rattle.words.specs.Word.{number_at, bytes_of, signed_of, unsigned_of, flat}
use Rattle.plan.specs.Lists.{table, row, joined, every}
use Rattle.plan.specs.Format.{horizon_in, offset_in, length_in, required_offset, count_in, part, section_in, column_of, column_in, plan_in}
use Rattle.plan.specs.Tests.{long_enough, offsets_kept, count_kept, sizes_kept, horizon_kept, count_list, integrator_kept, input_kept}
use Rattle.plan.specs.Tests.{node_test, pair_ascends, node_kept, link_limits_kept, link_ordered, command_limits_kept, command_ordered}
use Rattle.plan.specs.Refusals.{refusal_number, refusal_entry, Finding, number_of, entry_of, is_clean, or_else, first_finding, horizon_finding, integrators_finding, inputs_finding}
use Rattle.plan.specs.Refusals.{nodes_finding, links_finding, commands_finding, plan_finding, finding_of, accepted, section_of, section_start}
use Rattle.plan.specs.Encoding.{offset_from, offset_of, file_length, header_words, integrator_words, input_words, node_words, link_words}
use Rattle.plan.specs.Encoding.{command_words, file_words, encode}
use Rattle.plan.specs.Idle.{idle_plan}
use Rattle.plan.specs.ExampleTables.{Case, case, AllRight, end, ◌&◌}
use Rattle.plan.specs.ExampleFiles.{file_of, cup_file, cup_plan}
use Rattle.plan.specs.declared.Plan.{Plan}
use Rattle.plan.specs.declared.Refusal.{Refusal}
use Rattle.plan.specs.declared.Refusal.TheVariants.{Short, Offsets, Sizes, Horizon, Integrator, Input, Node, Link, Command}

-- words of signed numbers: −1, −M, −M − 1, −16,777,216, −16,777,217
abbrev minus1 : ℕ
minus1 = 4294967295

abbrev minus_m : ℕ
minus_m = 3221225472

abbrev below_m : ℕ
below_m = 3221225471

abbrev minus_c : ℕ
minus_c = 4278190080

abbrev below_c : ℕ
below_c = 4278190079

-- a file in which nothing is found, and one that is refused
abbrev clean : List ℕ → Case
clean file = case Finding (finding_of file) (Ok tt)

abbrev refuses : List ℕ → Refusal → Case
refuses file refusal = case Finding (finding_of file) (Err refusal)

-- ten ticks of one integrator with this start and quantum; of these nodes over one integrator and one input; of these links between two
-- integrators; of these commands to one input
abbrev integrator : ℕ → ℕ → List ℕ
integrator start quantum = file_of 10 (start ∷ quantum ∷ []) [] [] [] []

abbrev node : List ℕ → List ℕ
node words = file_of 10 (0 ∷ 1 ∷ []) (3 ∷ []) words [] []

abbrev links : List ℕ → List ℕ
links words = file_of 10 (0 ∷ 1 ∷ 0 ∷ 1 ∷ []) [] [] words []

abbrev commands : List ℕ → List ℕ
commands words = file_of 10 (0 ∷ 1 ∷ []) (3 ∷ []) [] [] words

-- every section at its largest count; what its entries say does not matter to their counts
abbrev full_file : List ℕ
full_file = file_of 10 (replicate 64 1) (replicate 8 0) (replicate 80 0) (replicate 768 0) (replicate 192 0)

-- starts, first values and limits below 0, a node of kind 3 and one of kind 2 over it, a link that names a node
abbrev valve_file : List ℕ
valve_file =
    file_of 500 (minus1 ∷ 7 ∷ 5 ∷ 8 ∷ []) (minus_m ∷ []) (3 ∷ 0 ∷ 1 ∷ minus1 ∷ 4 ∷ 2 ∷ 3 ∷ 0 ∷ minus_m ∷ 9 ∷ []) (1 ∷ 4 ∷ minus_c ∷ []) []

abbrev valve_plan : Plan
valve_plan = record {
  horizon = 500;
  counts = record { n = 2; m = 1; k = 2; links = 1; commands = 0 };
  integrators = record { starts = negsuc 0 ∷ pos 5 ∷ replicate 30 (pos 0); quanta = pos 7 ∷ pos 8 ∷ replicate 30 (pos 0) };
  inputs = record { firsts = negsuc 1073741823 ∷ replicate 7 (pos 0) };
  nodes = record { kinds = 3 ∷ 2 ∷ replicate 14 0; a = 0 ∷ 3 ∷ replicate 14 0; b = 1 ∷ replicate 15 0; lows = negsuc 0 ∷ negsuc 1073741823 ∷ replicate 14 (pos 0); highs = pos 4 ∷ pos 9 ∷ replicate 14 (pos 0) };
  links = record { targets = 1 ∷ replicate 255 0; sources = 4 ∷ replicate 255 0; coefficients = negsuc 16777215 ∷ replicate 255 (pos 0) };
  commands = record { ticks = replicate 64 0; inputs = replicate 64 0; values = replicate 64 (pos 0) };
}

pub examples : List Case
examples =
    -- "A cup in full": decoded, encoded, and its sections; and the 52 bytes of the idle plan
    clean cup_file
    ∷ case Plan (plan_in cup_file) cup_plan
    ∷ case (List ℕ) (encode cup_plan) cup_file
    ∷ case ℕ (file_length cup_plan) 100
    ∷ case (List ℕ) (section_of cup_file 0) (take 16 (drop 44 cup_file))
    ∷ case (List ℕ) (section_of cup_file 1) (take 4 (drop 60 cup_file))
    ∷ case (List ℕ) (section_of cup_file 2) []
    ∷ case (List ℕ) (section_of cup_file 3) (take 24 (drop 64 cup_file))
    ∷ case (List ℕ) (section_of cup_file 4) (drop 88 cup_file)
    ∷ case (List ℕ) (section_of cup_file 5) []
    ∷ case ℕ (section_start cup_file 2) 64
    ∷ case ℕ (section_start cup_file 4) 88
    ∷ case ℕ (section_start cup_file 5) 0
    ∷ case Plan (plan_in (encode idle_plan)) idle_plan
    ∷ case ℕ (file_length idle_plan) 52
    -- a plan with nodes and numbers below 0, decoded and encoded; the counts and the length of the longest file
    ∷ clean valve_file
    ∷ case Plan (plan_in valve_file) valve_plan
    ∷ case (List ℕ) (encode valve_plan) valve_file
    ∷ case Bool (sizes_kept full_file) true
    ∷ case ℕ (length full_file) 4492
    -- 1 to 4: the file is too short, has a byte too many, a gap, an offset that is no sum; no integrators, one entry too many of each section,
    -- half an entry; a horizon outside its limits; 2 before 3 before 4
    ∷ refuses [] Short
    ∷ refuses (take 43 cup_file) Short
    ∷ refuses (cup_file ++ (0 ∷ [])) Offsets
    ∷ refuses (take 99 cup_file) Offsets
    ∷ refuses (flat (10 ∷ 48 ∷ 8 ∷ 56 ∷ 0 ∷ 56 ∷ 0 ∷ 56 ∷ 0 ∷ 56 ∷ 0 ∷ 0 ∷ 0 ∷ 1 ∷ [])) Offsets
    ∷ refuses (flat (10 ∷ 44 ∷ 8 ∷ 52 ∷ 0 ∷ 53 ∷ 0 ∷ 52 ∷ 0 ∷ 52 ∷ 0 ∷ 0 ∷ 1 ∷ [])) Offsets
    ∷ refuses (file_of 10 [] [] [] [] [] ++ (0 ∷ [])) Offsets
    ∷ refuses (file_of 10 [] [] [] [] []) Sizes
    ∷ refuses (file_of 10 (replicate 66 1) [] [] [] []) Sizes
    ∷ refuses (file_of 10 (0 ∷ 1 ∷ 0 ∷ []) [] [] [] []) Sizes
    ∷ refuses (file_of 10 (0 ∷ 1 ∷ []) (replicate 9 0) [] [] []) Sizes
    ∷ refuses (file_of 10 (0 ∷ 1 ∷ []) [] (replicate 85 0) [] []) Sizes
    ∷ refuses (file_of 10 (0 ∷ 1 ∷ []) [] [] (replicate 771 0) []) Sizes
    ∷ refuses (file_of 10 (0 ∷ 1 ∷ []) [] [] [] (replicate 195 0)) Sizes
    ∷ refuses (file_of 0 (0 ∷ 1 ∷ 0 ∷ []) [] [] [] []) Sizes
    ∷ refuses (file_of 0 (0 ∷ 0 ∷ []) [] [] [] []) Horizon
    ∷ refuses (file_of 2000000001 (0 ∷ 1 ∷ []) [] [] [] []) Horizon
    ∷ clean (file_of 2000000000 (0 ∷ 1 ∷ []) [] [] [] [])
    -- 5 and 6: both ends of the limits, and beyond; the lowest entry; 5 before 6
    ∷ clean (integrator 1073741824 1)
    ∷ clean (integrator minus_m 1073741824)
    ∷ refuses (integrator 1073741825 1) (Integrator 0)
    ∷ refuses (integrator below_m 1) (Integrator 0)
    ∷ refuses (integrator 0 0) (Integrator 0)
    ∷ refuses (file_of 10 (0 ∷ 1 ∷ below_m ∷ 1 ∷ []) [] [] [] []) (Integrator 1)
    ∷ refuses (integrator 0 minus1) (Integrator 0)
    ∷ refuses (integrator 0 1073741825) (Integrator 0)
    ∷ refuses (file_of 10 (0 ∷ 1 ∷ 0 ∷ 0 ∷ 0 ∷ 0 ∷ []) (below_m ∷ []) [] [] []) (Integrator 1)
    ∷ refuses (file_of 10 (0 ∷ 1 ∷ []) (minus_m ∷ 1073741824 ∷ below_m ∷ []) [] [] []) (Input 2)
    -- 7: kind 0, kind 1 of a lower node, kind 2 with lo = hi, kind 3 with lo above hi are clean; then each way to break a kind's rule, the
    -- lowest entry, and 6 before 7
    ∷ clean (node (0 ∷ 0 ∷ 1 ∷ 0 ∷ 0 ∷ []))
    ∷ clean (node (0 ∷ 0 ∷ 1 ∷ 0 ∷ 0 ∷ 1 ∷ 2 ∷ 2 ∷ 0 ∷ 0 ∷ []))
    ∷ clean (node (2 ∷ 1 ∷ 0 ∷ 5 ∷ 5 ∷ []))
    ∷ clean (node (3 ∷ 0 ∷ 1 ∷ 1073741824 ∷ minus_m ∷ []))
    ∷ refuses (node (4 ∷ 0 ∷ 0 ∷ 0 ∷ 0 ∷ [])) (Node 0)
    ∷ refuses (node (0 ∷ 2 ∷ 0 ∷ 0 ∷ 0 ∷ [])) (Node 0)
    ∷ refuses (node (2 ∷ 2 ∷ 0 ∷ 0 ∷ 0 ∷ [])) (Node 0)
    ∷ refuses (node (3 ∷ 2 ∷ 0 ∷ 0 ∷ 0 ∷ [])) (Node 0)
    ∷ refuses (node (1 ∷ 0 ∷ 2 ∷ 0 ∷ 0 ∷ [])) (Node 0)
    ∷ refuses (node (3 ∷ 0 ∷ 2 ∷ 0 ∷ 0 ∷ [])) (Node 0)
    ∷ refuses (node (0 ∷ 0 ∷ 1 ∷ 1 ∷ 0 ∷ [])) (Node 0)
    ∷ refuses (node (1 ∷ 0 ∷ 1 ∷ 0 ∷ 1 ∷ [])) (Node 0)
    ∷ refuses (node (2 ∷ 0 ∷ 0 ∷ 5 ∷ 4 ∷ [])) (Node 0)
    ∷ refuses (node (2 ∷ 0 ∷ 1 ∷ 4 ∷ 5 ∷ [])) (Node 0)
    ∷ refuses (node (2 ∷ 0 ∷ 0 ∷ below_m ∷ 0 ∷ [])) (Node 0)
    ∷ refuses (node (3 ∷ 0 ∷ 1 ∷ 0 ∷ 1073741825 ∷ [])) (Node 0)
    ∷ refuses (node (0 ∷ 3 ∷ 0 ∷ 0 ∷ 0 ∷ 0 ∷ 0 ∷ 0 ∷ 0 ∷ 0 ∷ [])) (Node 0)
    ∷ refuses (node (0 ∷ 0 ∷ 0 ∷ 0 ∷ 0 ∷ 4 ∷ 0 ∷ 0 ∷ 0 ∷ 0 ∷ 4 ∷ 0 ∷ 0 ∷ 0 ∷ 0 ∷ [])) (Node 1)
    ∷ refuses (file_of 10 (0 ∷ 1 ∷ []) (below_m ∷ []) (4 ∷ 0 ∷ 0 ∷ 0 ∷ 0 ∷ []) [] []) (Input 0)
    -- 8: "an order fault is the later entry's", a wild predecessor is itself faulty, the lowest entry, and 7 before 8
    ∷ clean (links (0 ∷ 0 ∷ minus_c ∷ 0 ∷ 1 ∷ 16777216 ∷ 1 ∷ 0 ∷ 1 ∷ []))
    ∷ refuses (links (0 ∷ 1 ∷ 1 ∷ 0 ∷ 0 ∷ 1 ∷ [])) (Link 1)
    ∷ refuses (links (1 ∷ 0 ∷ 1 ∷ 0 ∷ 1 ∷ 1 ∷ [])) (Link 1)
    ∷ refuses (links (0 ∷ 0 ∷ 1 ∷ 0 ∷ 0 ∷ 1 ∷ [])) (Link 1)
    ∷ refuses (links (5 ∷ 0 ∷ 1 ∷ 0 ∷ 0 ∷ 1 ∷ [])) (Link 0)
    ∷ refuses (links (2 ∷ 0 ∷ 1 ∷ [])) (Link 0)
    ∷ refuses (links (0 ∷ 2 ∷ 1 ∷ [])) (Link 0)
    ∷ refuses (links (0 ∷ 0 ∷ 0 ∷ [])) (Link 0)
    ∷ refuses (links (0 ∷ 0 ∷ 16777217 ∷ [])) (Link 0)
    ∷ refuses (links (0 ∷ 0 ∷ below_c ∷ [])) (Link 0)
    ∷ refuses (links (0 ∷ 0 ∷ 1 ∷ 0 ∷ 1 ∷ 0 ∷ 0 ∷ 1 ∷ 0 ∷ [])) (Link 1)
    ∷ refuses (file_of 10 (0 ∷ 1 ∷ []) [] (4 ∷ 0 ∷ 0 ∷ 0 ∷ 0 ∷ []) (0 ∷ 0 ∷ 0 ∷ []) []) (Node 0)
    -- 9: a tick at the horizon and two inputs at one tick are clean; each limit, the order, no input to name, and 8 before 9
    ∷ clean (commands (1 ∷ 0 ∷ minus_m ∷ 10 ∷ 0 ∷ 1073741824 ∷ []))
    ∷ clean (file_of 10 (0 ∷ 1 ∷ []) (0 ∷ 0 ∷ []) [] [] (2 ∷ 0 ∷ 1 ∷ 2 ∷ 1 ∷ 1 ∷ []))
    ∷ refuses (commands (0 ∷ 0 ∷ 0 ∷ [])) (Command 0)
    ∷ refuses (commands (11 ∷ 0 ∷ 0 ∷ [])) (Command 0)
    ∷ refuses (commands (1 ∷ 1 ∷ 0 ∷ [])) (Command 0)
    ∷ refuses (commands (1 ∷ 0 ∷ below_m ∷ [])) (Command 0)
    ∷ refuses (commands (2 ∷ 0 ∷ 0 ∷ 2 ∷ 0 ∷ 1 ∷ [])) (Command 1)
    ∷ refuses (commands (3 ∷ 0 ∷ 0 ∷ 2 ∷ 0 ∷ 0 ∷ 1 ∷ 0 ∷ 0 ∷ [])) (Command 1)
    ∷ refuses (file_of 10 (0 ∷ 1 ∷ []) [] [] [] (1 ∷ 0 ∷ 0 ∷ [])) (Command 0)
    ∷ refuses (file_of 10 (0 ∷ 1 ∷ []) (3 ∷ []) [] (0 ∷ 0 ∷ 0 ∷ []) (0 ∷ 0 ∷ 0 ∷ [])) (Link 0)
    ∷ case (List ℕ) (section_of (commands (0 ∷ 0 ∷ 0 ∷ [])) 0) []
    ∷ case ℕ (number_of (Err (Command 3))) 9
    ∷ case ℕ (entry_of (Err (Command 3))) 3
    ∷ []

-- every example is right: each pair of values is equal by computation
pub examples_right : AllRight examples
unfolding examples number_at bytes_of signed_of unsigned_of flat within table row joined every horizon_in offset_in length_in required_offset count_in
    part section_in column_of column_in plan_in long_enough offsets_kept count_kept sizes_kept horizon_kept count_list integrator_kept input_kept node_test
    pair_ascends node_kept link_limits_kept link_ordered command_limits_kept command_ordered refusal_number refusal_entry number_of entry_of is_clean or_else first_finding horizon_finding
    integrators_finding inputs_finding nodes_finding links_finding commands_finding plan_finding finding_of accepted section_of section_start
    offset_from offset_of file_length header_words integrator_words input_words node_words link_words command_words file_words encode
examples_right =
    refl & refl & refl & refl & refl & refl & refl & refl & refl & refl & refl & refl & refl & refl & refl & refl & refl & refl & refl & refl &
    refl & refl & refl & refl & refl & refl & refl & refl & refl & refl & refl & refl & refl & refl & refl & refl & refl & refl & refl & refl &
    refl & refl & refl & refl & refl & refl & refl & refl & refl & refl & refl & refl & refl & refl & refl & refl & refl & refl & refl & refl &
    refl & refl & refl & refl & refl & refl & refl & refl & refl & refl & refl & refl & refl & refl & refl & refl & refl & refl & refl & refl &
    refl & refl & refl & refl & refl & refl & refl & refl & refl & refl & refl & refl & end
