-- Laws: the plan writer: every number of a plan that keeps the rules fits a word, and the file grows section by section. Assumes nothing.
use Rattle.std.specs.Prelude.{◌≡◌, refl, ℕ, ◌+◌, ◌≤◌, ◌<◌, ℤ, Some, None, length, get_or, drop}
use Rattle.std.proofs.Common.{◌∙◌}
use mathlib.Core.List.{List, ◌∷◌, ◌++◌, append-nil}
use native.Mathlib.Omega.{arith}
use borrow.Author.Tests.{le-leb, lt-leb}
use Rattle.words.specs.Putting.{written}
use Rattle.words.proofs.Laws.Flat.{length-flat}
use Rattle.plan.specs.Numbers.{M, sections, header_bytes}
use Rattle.plan.specs.Lists.{nat_at, int_at, joined}
use Rattle.plan.specs.Tests.{count_list}
use Rattle.plan.specs.Rules.{Within, PlanRules}
use Rattle.plan.specs.Encoding.{length_from, offset_from, pair_entry, offset_of, file_length, header_words, integrator_words}
use Rattle.plan.proofs.Laws.Layout.{length_of}
use Rattle.plan.specs.Encoding.{input_words, node_words, link_words, command_words, file_words, encode}
use Rattle.plan.proofs.Laws.Layout.{entry_words, section_words, words_to, words_to_lem, length_to, length_section, offset-most}
use Rattle.plan.proofs.Laws.Small.{signed_size, coefficient-within, quantum-within, node-limits, small_at, entry-small}
use Rattle.plan.specs.declared.Plan.{Plan}
use Rattle.sectionwriters.specs.Entries.{Unsigned32, Signed32}
use Rattle.planwriter.specs.Plans.{plan_written, written_buffer}
use Rattle.words.proofs.Laws.Putting.{behind, back, length_behind}
use Rattle.sectionwriters.proofs.Laws.Writing.{BeginsWith, begun_of, turn}

-- ---- the numbers
-- each number of a used entry fits a word
pub record Fitting (p : Plan) : Type 0 where
  pub starts : Signed32 p.counts.n p.integrators.starts
  pub quanta : Signed32 p.counts.n p.integrators.quanta
  pub firsts : Signed32 p.counts.m p.inputs.firsts
  pub kinds : Unsigned32 p.counts.k p.nodes.kinds
  pub a : Unsigned32 p.counts.k p.nodes.a
  pub b : Unsigned32 p.counts.k p.nodes.b
  pub lows : Signed32 p.counts.k p.nodes.lows
  pub highs : Signed32 p.counts.k p.nodes.highs
  pub targets : Unsigned32 p.counts.links p.links.targets
  pub sources : Unsigned32 p.counts.links p.links.sources
  pub coefficients : Signed32 p.counts.links p.links.coefficients
  pub ticks : Unsigned32 p.counts.commands p.commands.ticks
  pub inputs : Unsigned32 p.counts.commands p.commands.inputs
  pub values : Signed32 p.counts.commands p.commands.values

-- a number within ±M does
within_fits : {count : ℕ} {zs : List ℤ} → ((i : ℕ) → i < count → Within M (int_at zs i)) → Signed32 count zs
within_fits {zs = xs} h = record { small = λ i l. signed_size (int_at xs i) (h i l) }

module _ (p : Plan) (r : PlanRules p) where
  -- word c of each entry of section k does
  column_fits : (k c : ℕ) (xs : List ℕ) → k < sections → ((i : ℕ) → get_or (entry_words p k i) c 0 ≡ nat_at xs i)
      → Unsigned32 (nat_at (count_list p) k) xs
  column_fits k c xs h e = record { small = λ i l. rw (e i) at (small_at (entry_words p k i) (entry-small p r k i h l) c) }

  pub fitting : Fitting p
  unfolding count_list entry_words integrator_words input_words node_words link_words command_words
  fitting =
      record {
        starts = within_fits (λ i h. (r.integrators i h).start);
        quanta = within_fits (λ i h. let e = r.integrators i h in quantum-within e.least e.most);
        firsts = within_fits r.inputs;
        kinds = column_fits 2 0 p.nodes.kinds (omega arith) (λ i. refl);
        a = column_fits 2 1 p.nodes.a (omega arith) (λ i. refl);
        b = column_fits 2 2 p.nodes.b (omega arith) (λ i. refl);
        lows = within_fits (λ j h. (node-limits p j (r.nodes j h)).0);
        highs = within_fits (λ j h. (node-limits p j (r.nodes j h)).1);
        targets = column_fits 3 0 p.links.targets (omega arith) (λ i. refl);
        sources = column_fits 3 1 p.links.sources (omega arith) (λ i. refl);
        coefficients = within_fits (λ e h. coefficient-within (r.links e h).coefficient);
        ticks = column_fits 4 0 p.commands.ticks (omega arith) (λ i. refl);
        inputs = column_fits 4 1 p.commands.inputs (omega arith) (λ i. refl);
        values = within_fits (λ e h. (r.commands e h).value);
      }

-- ---- the sections
-- the header and the first k sections of a plan's file are written into a buffer that holds the file; s is the buffer now
pub record WrittenUpTo (p : Plan) (old : List ℕ) (k : ℕ) (s : List ℕ) : Type 0 where
  pub room : file_length p ≤ length old
  pub begun : BeginsWith (words_to p k) old s

module _ {p : Plan} {old : List ℕ} {k : ℕ} {s : List ℕ} (g : WrittenUpTo p old k s) (h : k < sections)
    {at : ℕ} (e : at ≡ offset_from (count_list p) k) where
  -- section k starts inside the buffer, and there is room for it
  pub inside : at ≤ length s
  unfolding offset_of
  inside =
      let m = offset-most p k h in
      let z = g.begun.size in
      omega (arith, g.room)

  pub section_room : length_from (count_list p) k ≤ length (behind s at)
  unfolding offset_of length_of
  section_room =
      let m = offset-most p k h in
      let z = g.begun.size in
      let l = length_behind s at in
      omega (arith, g.room)

  -- section k is written into the part behind what there is
  pub next : {t : List ℕ} → t ≡ written (section_words p k) (behind s at) → WrittenUpTo p old (k + 1) (back s at t)
  unfolding words_to offset_of
  next q =
      let m = offset-most p k h in
      let a = length_to p k (omega arith) in
      let l = length_section p k h in
      record {
        room = g.room;
        begun = turn (header_words p) (section_words p) old k at g.begun (omega arith) (omega (arith, g.room)) q;
      }

-- the file, and the rest as it was
file_written : (p : Plan) (old : List ℕ) → written (file_words p) old ≡ encode p ++ drop (length (encode p)) old
unfolding written encode
file_written p old = rw (length-flat (file_words p))

-- `size` is the file's length as the code works it out: the offset behind the last section
module _ (p : Plan) (old : List ℕ) {size : ℕ} (e : size ≡ offset_from (count_list p) sections) where
  length_of_lem : size ≡ file_length p
  unfolding file_length offset_of
  length_of_lem = e

  -- the header
  pub header-room : size ≤ length old → header_bytes ≤ length old
  unfolding offset_from
  header-room h = omega arith

  pub headed : {s : List ℕ} → size ≤ length old → s ≡ written (p.horizon ∷ joined (pair_entry (count_list p)) sections) old
      → WrittenUpTo p old 0 s
  unfolding words_to joined header_words
  headed room q =
      let l = length_to p 0 (omega arith) in
      let m = offset-most p 0 (omega arith) in
      let f = length_of_lem in
      record { room = omega arith; begun = begun_of (rw append-nil q) (omega arith) }

  -- the whole file
  pub filed : {s : List ℕ} → WrittenUpTo p old sections s → (Some size ≡ plan_written p (length old)) × (s ≡ written_buffer p old)
  unfolding plan_written written_buffer
  filed g =
      let b = le-leb (file_length p) (length old) g.room in
      (rw (b, length_of_lem), rw b (g.begun.words ∙ rw (← words_to_lem p) (file_written p old)))

  -- a buffer that is too short
  pub short : length old < size → (None ≡ plan_written p (length old)) × (old ≡ written_buffer p old)
  unfolding plan_written written_buffer
  short h =
      let f = length_of_lem in
      let b = lt-leb (file_length p) (length old) (omega arith) in
      (rw b, rw b)
