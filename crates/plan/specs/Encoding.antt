-- Binding definition: the file of a plan, "The writer writes the state's plan and returns the length".
use Rattle.std.specs.Prelude.{List, [], ◌∷◌, ◌++◌, ℕ, zero, suc, ◌+◌, ◌*◌, ℤ}
use Rattle.words.specs.Word.{word_of, flat}
use Rattle.plan.specs.Numbers.{sections, entry_sizes, header_bytes}
use Rattle.plan.specs.Lists.{nat_at, int_at, joined}
use Rattle.plan.specs.Tests.{count_list}
use Rattle.plan.specs.declared.Plan.{Plan}

-- of sections with these counts: the length of a section, and its offset
abbrev pub length_from : List ℕ → ℕ → ℕ
length_from counts section = nat_at entry_sizes section * nat_at counts section

unfoldable pub offset_from : List ℕ → ℕ → ℕ
offset_from counts zero = header_bytes
offset_from counts (suc section) = offset_from counts section + length_from counts section

-- the words of the header's pairs, and of an entry of each section: those of links and of commands are two numbers and a signed one
abbrev pub pair_entry : List ℕ → ℕ → List ℕ
pair_entry counts section = offset_from counts section ∷ length_from counts section ∷ []

abbrev pub integrator_entry : List ℤ → List ℤ → ℕ → List ℕ
integrator_entry starts quanta i = word_of (int_at starts i) ∷ word_of (int_at quanta i) ∷ []

abbrev pub input_entry : List ℤ → ℕ → List ℕ
input_entry firsts j = word_of (int_at firsts j) ∷ []

abbrev pub node_entry : (kinds a b : List ℕ) (lows highs : List ℤ) (j : ℕ) → List ℕ
node_entry kinds a b lows highs j =
    nat_at kinds j ∷ nat_at a j ∷ nat_at b j ∷ word_of (int_at lows j) ∷ word_of (int_at highs j) ∷ []

abbrev pub triple_entry : (xs ys : List ℕ) (zs : List ℤ) (e : ℕ) → List ℕ
triple_entry xs ys zs e = nat_at xs e ∷ nat_at ys e ∷ word_of (int_at zs e) ∷ []

module _ (p : Plan) where
  unfoldable pub offset_of : ℕ → ℕ
  offset_of section = offset_from (count_list p) section

  -- the offset behind the last section is the file's length
  unfoldable pub file_length : ℕ
  file_length = offset_of sections

  unfoldable pub header_words : List ℕ
  header_words = p.horizon ∷ joined (pair_entry (count_list p)) sections

  unfoldable pub integrator_words : ℕ → List ℕ
  integrator_words i = integrator_entry p.integrators.starts p.integrators.quanta i

  unfoldable pub input_words : ℕ → List ℕ
  input_words j = input_entry p.inputs.firsts j

  unfoldable pub node_words : ℕ → List ℕ
  node_words j = node_entry p.nodes.kinds p.nodes.a p.nodes.b p.nodes.lows p.nodes.highs j

  unfoldable pub link_words : ℕ → List ℕ
  link_words e = triple_entry p.links.targets p.links.sources p.links.coefficients e

  unfoldable pub command_words : ℕ → List ℕ
  command_words e = triple_entry p.commands.ticks p.commands.inputs p.commands.values e

  -- the header, then the sections one behind the other
  unfoldable pub file_words : List ℕ
  file_words =
      header_words ++ (joined integrator_words p.counts.n ++ (joined input_words p.counts.m ++ (joined node_words p.counts.k
      ++ (joined link_words p.counts.links ++ joined command_words p.counts.commands))))

  unfoldable pub encode : List ℕ
  encode = flat file_words
