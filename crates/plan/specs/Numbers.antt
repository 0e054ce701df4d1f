-- Binding definition: the numbers of document 01 by name. src/numbers.rt has the same as constants, and Laws/Constants says that the
-- two are equal.
use Rattle.std.specs.Prelude.{List, [], ◌∷◌, ℕ, ◌+◌, ◌*◌}

-- ---- values and ticks
-- "Let M = 2^30 = 1,073,741,824."
abbrev pub M : ℕ
M = 1073741824

-- "within ±16,777,216"
abbrev pub largest_coefficient : ℕ
largest_coefficient = 16777216

-- "horizon (a tick, 1 to 2,000,000,000)"
abbrev pub largest_horizon : ℕ
largest_horizon = 2000000000

-- "for s = 0 d is never": above every tick, the largest number that 32 bits hold
abbrev pub never : ℕ
never = 4294967295

-- "A run's budget is above 1,024", which is refusal 11
abbrev pub largest_budget : ℕ
largest_budget = 1024

-- "runs lazily with budget 64", the listing program
abbrev pub listing_budget : ℕ
listing_budget = 64

-- ---- the most entries of each section, which are the widths of a plan's arrays
-- "Integrators, 1 to 32 (n)"
abbrev pub most_integrators : ℕ
most_integrators = 32

-- "Inputs, 0 to 8 (m)"
abbrev pub most_inputs : ℕ
most_inputs = 8

-- "Nodes, 0 to 16 (k)"
abbrev pub most_nodes : ℕ
most_nodes = 16

-- "Links, 0 to 256"
abbrev pub most_links : ℕ
most_links = 256

-- "Commands, 0 to 64"
abbrev pub most_commands : ℕ
most_commands = 64

-- the width of a table with an entry for each source, of which there are 32 + 8 + 16 = 56 at the most
abbrev pub source_width : ℕ
source_width = 64

-- ---- "Sections in order": the number of each, in the header and for the section view
abbrev pub section_integrators : ℕ
section_integrators = 0

abbrev pub section_inputs : ℕ
section_inputs = 1

abbrev pub section_nodes : ℕ
section_nodes = 2

abbrev pub section_links : ℕ
section_links = 3

abbrev pub section_commands : ℕ
section_commands = 4

-- ---- "Node kinds, with a and b the values of A and B"
-- "0 is a−b"
abbrev pub kind_difference : ℕ
kind_difference = 0

-- "1 is floor(a×b / 65,536)"
abbrev pub kind_product : ℕ
kind_product = 1

-- "2 is a limited to lo..hi"
abbrev pub kind_limit : ℕ
kind_limit = 2

-- "3 is hi if a ≥ b, else lo"
abbrev pub kind_comparison : ℕ
kind_comparison = 3

-- ---- the plan file: the bytes of an entry of each section
-- "Integrators, .. 8 bytes"
abbrev pub integrator_bytes : ℕ
integrator_bytes = 8

-- "Inputs, .. 4 bytes"
abbrev pub input_bytes : ℕ
input_bytes = 4

-- "Nodes, .. 20 bytes"
abbrev pub node_bytes : ℕ
node_bytes = 20

-- "Links, .. 12 bytes"
abbrev pub link_bytes : ℕ
link_bytes = 12

-- "Commands, .. 12 bytes"
abbrev pub command_bytes : ℕ
command_bytes = 12

-- how many sections there are; of each the bytes of an entry, and the least and the largest count
abbrev pub sections : ℕ
sections = 5

abbrev pub entry_sizes : List ℕ
entry_sizes = integrator_bytes ∷ input_bytes ∷ node_bytes ∷ link_bytes ∷ command_bytes ∷ []

abbrev pub least_counts : List ℕ
least_counts = 1 ∷ 0 ∷ 0 ∷ 0 ∷ 0 ∷ []

abbrev pub largest_counts : List ℕ
largest_counts = most_integrators ∷ most_inputs ∷ most_nodes ∷ most_links ∷ most_commands ∷ []

-- "Header, 44 bytes: horizon .., then five pairs of offset and length in bytes"
abbrev pub header_bytes : ℕ
header_bytes = 4 + 8 * sections

-- a file with the most entries of every section
abbrev pub longest_file : ℕ
longest_file = header_bytes + integrator_bytes * most_integrators + input_bytes * most_inputs + node_bytes * most_nodes + link_bytes * most_links + command_bytes * most_commands

-- "reads at most 4,493 bytes of standard input", the listing program: one more, so that a longer input is refused
abbrev pub listing_input : ℕ
listing_input = longest_file + 1

-- "Events of an instant: .. 12 bytes each"
abbrev pub event_bytes : ℕ
event_bytes = 12

-- ---- "When a call declines"
-- "An accepted call gives number 0"
abbrev pub acceptance : ℕ
acceptance = 0

-- "The file is shorter than 44 bytes."
abbrev pub refused_short : ℕ
refused_short = 1

-- "A pair breaks the offset rule."
abbrev pub refused_offsets : ℕ
refused_offsets = 2

-- "A section is no whole number of entries, or its count is outside its limits."
abbrev pub refused_sizes : ℕ
refused_sizes = 3

-- "The horizon is outside its limits."
abbrev pub refused_horizon : ℕ
refused_horizon = 4

-- "An integrator entry breaks its rule."
abbrev pub refused_integrator : ℕ
refused_integrator = 5

-- "An input entry breaks its rule."
abbrev pub refused_input : ℕ
refused_input = 6

-- "A node has a kind above 3 or breaks its kind's rule."
abbrev pub refused_node : ℕ
refused_node = 7

-- "A link breaks its rule, order included."
abbrev pub refused_link : ℕ
refused_link = 8

-- "A command breaks its rule, order included."
abbrev pub refused_command : ℕ
refused_command = 9

-- "The state is not sound (runs, position, plan writer)."
abbrev pub refused_unsound : ℕ
refused_unsound = 10

-- "A run's budget is above 1,024."
abbrev pub refused_budget : ℕ
refused_budget = 11

-- "A run's buffer is shorter than budget×(n+m)×12 bytes."
abbrev pub refused_run_buffer : ℕ
refused_run_buffer = 12

-- "The plan writer's buffer is shorter than the file."
abbrev pub refused_write_buffer : ℕ
refused_write_buffer = 13

-- "The position call's integrator number is n or more."
abbrev pub refused_integrator_number : ℕ
refused_integrator_number = 14

-- ---- "Status is read from the state"
-- "else 0 paused"
abbrev pub paused : ℕ
paused = 0

-- "1 finished if t is never or above the horizon"
abbrev pub finished : ℕ
finished = 1

-- "else 2 range if step 1 bars the instant"
abbrev pub range : ℕ
range = 2
