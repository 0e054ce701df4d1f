-- Binding definition: where each number of a "Plan file" stands, and the plan that a file holds. Nothing is tested here; what a file does
-- not have reads as 0.
use Rattle.std.specs.Prelude.{◌≡◌, List, ℕ, zero, suc, ◌+◌, ◌*◌, ◌/◌, ℤ, pos, length, take, drop}
use Rattle.words.specs.Word.{word, signed_word}
use Rattle.plan.specs.Lists.{nat_at, row}
use Rattle.plan.specs.Numbers.{most_integrators, most_inputs, most_nodes, most_links, most_commands, entry_sizes, largest_counts, header_bytes, section_integrators, section_inputs, section_nodes, section_links, section_commands}
use Rattle.plan.specs.declared.Plan.{Plan}

-- "Header, 44 bytes: horizon .., then five pairs of offset and length in bytes"
unfoldable pub horizon_in : List ℕ → ℕ
horizon_in file = word file 0

unfoldable pub offset_in : List ℕ → ℕ → ℕ
offset_in file section = word file (4 + 8 * section)

unfoldable pub length_in : List ℕ → ℕ → ℕ
length_in file section = word file (8 + 8 * section)

-- "The first offset is 44, each next offset is the previous offset plus length": where a section is to start; of the number behind the
-- last section, where the file is to end
unfoldable pub required_offset : List ℕ → ℕ → ℕ
required_offset file zero = header_bytes
required_offset file (suc section) = offset_in file section + length_in file section

unfoldable pub count_in : List ℕ → ℕ → ℕ
count_in file section = length_in file section / nat_at entry_sizes section

-- `size` bytes of a file from `offset` on
unfoldable pub part : List ℕ → ℕ → ℕ → List ℕ
part file offset size = take size (drop offset file)

unfoldable pub section_in : List ℕ → ℕ → List ℕ
section_in file section = part file (offset_in file section) (length_in file section)

-- one column of a section as an array of `wide` entries: word number `column` of each of `count` entries of `size` bytes by a reading of words,
-- and a zero in the unused entries
unfoldable pub column_of : {A : Type 0} (unused : A) (read : List ℕ → ℕ → A) (wide size count : ℕ) (section : List ℕ) (column : ℕ) → List A
column_of unused read wide size count section column = row unused wide count (λ i. read section (size * i + 4 * column))

-- of a section of a file
unfoldable pub column_in : {A : Type 0} (unused : A) (read : List ℕ → ℕ → A) (file : List ℕ) (section column : ℕ) → List A
column_in unused read file section = column_of unused read (nat_at largest_counts section) (nat_at entry_sizes section) (count_in file section) (section_in file section)

-- a number that is not signed, among the integers
abbrev pub unsigned_word : List ℕ → ℕ → ℤ
unsigned_word section at = pos (word section at)

-- of numbers that are not signed, of signed ones, and of quanta, which are not signed but counted beside values
abbrev pub words_in : List ℕ → ℕ → ℕ → List ℕ
words_in = column_in 0 word

abbrev pub signeds_in : List ℕ → ℕ → ℕ → List ℤ
signeds_in = column_in (pos 0) signed_word

abbrev pub unsigneds_in : List ℕ → ℕ → ℕ → List ℤ
unsigneds_in = column_in (pos 0) unsigned_word

-- the plan that a file holds, number for number
unfoldable pub plan_in : List ℕ → Plan
plan_in file =
    record {
      horizon = horizon_in file;
      counts = record {
        n = count_in file section_integrators;
        m = count_in file section_inputs;
        k = count_in file section_nodes;
        links = count_in file section_links;
        commands = count_in file section_commands;
      };
      -- "Integrators, .. 8 bytes: signed start ..; quantum"
      integrators = record {
        starts = signeds_in file section_integrators 0;
        quanta = unsigneds_in file section_integrators 1;
      };
      -- "Inputs, .. 4 bytes: signed first value"
      inputs = record {
        firsts = signeds_in file section_inputs 0;
      };
      -- "Nodes, .. 20 bytes: kind, A, B, signed lo, signed hi"
      nodes = record {
        kinds = words_in file section_nodes 0;
        a = words_in file section_nodes 1;
        b = words_in file section_nodes 2;
        lows = signeds_in file section_nodes 3;
        highs = signeds_in file section_nodes 4;
      };
      -- "Links, .. 12 bytes: target integrator, source, signed coefficient"
      links = record {
        targets = words_in file section_links 0;
        sources = words_in file section_links 1;
        coefficients = signeds_in file section_links 2;
      };
      -- "Commands, .. 12 bytes: tick .., input number .., signed value"
      commands = record {
        ticks = words_in file section_commands 0;
        inputs = words_in file section_commands 1;
        values = signeds_in file section_commands 2;
      };
    }

-- the arrays of a plan have their full width, as those of a struct have
pub record PlanWidths (p : Plan) : Type 0 where
  pub starts : length p.integrators.starts ≡ most_integrators
  pub quanta : length p.integrators.quanta ≡ most_integrators
  pub firsts : length p.inputs.firsts ≡ most_inputs
  pub kinds : length p.nodes.kinds ≡ most_nodes
  pub a : length p.nodes.a ≡ most_nodes
  pub b : length p.nodes.b ≡ most_nodes
  pub lows : length p.nodes.lows ≡ most_nodes
  pub highs : length p.nodes.highs ≡ most_nodes
  pub targets : length p.links.targets ≡ most_links
  pub sources : length p.links.sources ≡ most_links
  pub coefficients : length p.links.coefficients ≡ most_links
  pub ticks : length p.commands.ticks ≡ most_commands
  pub inputs : length p.commands.inputs ≡ most_commands
  pub values : length p.commands.values ≡ most_commands
