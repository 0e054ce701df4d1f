-- Laws: the sections of a file whose directory keeps its rules, as the code has them: a count n and a part of the file; and the plan that
-- what is read of them makes up. Assumes nothing.
use Rattle.std.specs.Prelude.{◌≡◌, List, ℕ, ◌*◌, ◌≤◌, ◌<◌, ℤ, pos, length}
use Rattle.std.proofs.Math.Path.{ap}
use Rattle.std.proofs.Common.{arith}
use Rattle.words.specs.Word.{word, signed_word}
use Rattle.plan.specs.Numbers.{sections, entry_sizes, largest_counts}
use Rattle.plan.specs.Lists.{nat_at}
use Rattle.plan.specs.Format.{horizon_in, count_in, section_in, column_of, column_in, unsigned_word, plan_in}
use Rattle.plan.proofs.Laws.Parts.{length-section_in, length-entries}
use Rattle.plan.specs.declared.Counts.{Counts}
use Rattle.plan.specs.declared.Integrators.{Integrators}
use Rattle.plan.specs.declared.Inputs.{Inputs}
use Rattle.plan.specs.declared.Nodes.{Nodes}
use Rattle.plan.specs.declared.Links.{Links}
use Rattle.plan.specs.declared.Commands.{Commands}
use Rattle.plan.specs.declared.Plan.{Plan}
use Rattle.directory.specs.Directory.{Directory}
use Rattle.planfile.specs.Columns.{words_of, signeds_of, unsigneds_of}

module _ (file : List ℕ) (k : ℕ) {n : ℕ} {part : List ℕ} (e : n ≡ count_in file k) (p : part ≡ section_in file k) where
  -- the entries are no more than an array holds, and the part has them all
  pub section_room : Directory file → k < sections → (n ≤ nat_at largest_counts k) × (nat_at entry_sizes k * n ≤ length part)
  section_room d h =
      let whole = length-entries file d.sizes k h in
      let long = length-section_in file d.offsets k h in
      rw (e, p) ((d.sizes.count k h).1, omega arith)

  -- a column that was read from the part is the column of the plan
  column_section : {A : Type 0} (unused : A) (read : List ℕ → ℕ → A) (column : ℕ) {xs : List A}
      → xs ≡ column_of unused read (nat_at largest_counts k) (nat_at entry_sizes k) n part column → xs ≡ column_in unused read file k column
  unfolding column_in
  column_section unused read column q = rw (e, p) at q

-- the columns of section k, by the kind of their numbers
module _ (k n : ℕ) (part : List ℕ) where
  abbrev words_at : ℕ → List ℕ
  words_at = words_of (nat_at largest_counts k) (nat_at entry_sizes k) n part

  abbrev signeds_at : ℕ → List ℤ
  signeds_at = signeds_of (nat_at largest_counts k) (nat_at entry_sizes k) n part

  abbrev unsigneds_at : ℕ → List ℤ
  unsigneds_at = unsigneds_of (nat_at largest_counts k) (nat_at entry_sizes k) n part

-- the plan of what is read
abbrev pub plan_read : ℕ → Counts → Integrators → Inputs → Nodes → Links → Commands → Plan
plan_read horizon counts integrators inputs nodes links commands =
    record {
      horizon = horizon;
      counts = counts;
      integrators = integrators;
      inputs = inputs;
      nodes = nodes;
      links = links;
      commands = commands;
    }

-- A file is read: its counts, and with them its sections one behind the other.
module _ (file : List ℕ) {counts : Counts} (e : counts ≡ (plan_in file).counts) where
  pub n_in : counts.n ≡ count_in file 0
  unfolding plan_in
  n_in = ap (λ (c : Counts). c.n) e

  pub m_in : counts.m ≡ count_in file 1
  unfolding plan_in
  m_in = ap (λ (c : Counts). c.m) e

  pub k_in : counts.k ≡ count_in file 2
  unfolding plan_in
  k_in = ap (λ (c : Counts). c.k) e

  pub links_in : counts.links ≡ count_in file 3
  unfolding plan_in
  links_in = ap (λ (c : Counts). c.links) e

  pub commands_in : counts.commands ≡ count_in file 4
  unfolding plan_in
  commands_in = ap (λ (c : Counts). c.commands) e

  -- what each reader hands back of its part
  module _ (part : List ℕ) where
    abbrev IntegratorsRead : Integrators → Type 0
    IntegratorsRead r = (r.starts ≡ signeds_at 0 counts.n part 0) × (r.quanta ≡ unsigneds_at 0 counts.n part 1)

    abbrev InputsRead : Inputs → Type 0
    InputsRead r = r.firsts ≡ signeds_at 1 counts.m part 0

    abbrev NodesRead : Nodes → Type 0
    NodesRead r =
        (r.kinds ≡ words_at 2 counts.k part 0)
        × ((r.a ≡ words_at 2 counts.k part 1)
        × ((r.b ≡ words_at 2 counts.k part 2)
        × ((r.lows ≡ signeds_at 2 counts.k part 3) × (r.highs ≡ signeds_at 2 counts.k part 4))))

    abbrev LinksRead : Links → Type 0
    LinksRead r =
        (r.targets ≡ words_at 3 counts.links part 0)
        × ((r.sources ≡ words_at 3 counts.links part 1) × (r.coefficients ≡ signeds_at 3 counts.links part 2))

    abbrev CommandsRead : Commands → Type 0
    CommandsRead r =
        (r.ticks ≡ words_at 4 counts.commands part 0)
        × ((r.inputs ≡ words_at 4 counts.commands part 1) × (r.values ≡ signeds_at 4 counts.commands part 2))

  -- is a part of the plan
  module _ {part : List ℕ} where
    integrators-read : part ≡ section_in file 0 → {r : Integrators} → IntegratorsRead part r → r ≡ (plan_in file).integrators
    unfolding plan_in
    integrators-read p r =
        λ i. record {
          starts = column_section file 0 n_in p (pos 0) signed_word 0 r.0 i;
          quanta = column_section file 0 n_in p (pos 0) unsigned_word 1 r.1 i;
        }

    inputs_read : part ≡ section_in file 1 → {r : Inputs} → InputsRead part r → r ≡ (plan_in file).inputs
    unfolding plan_in
    inputs_read p r = λ i. record { firsts = column_section file 1 m_in p (pos 0) signed_word 0 r i }

    nodes-read : part ≡ section_in file 2 → {r : Nodes} → NodesRead part r → r ≡ (plan_in file).nodes
    unfolding plan_in
    nodes-read p r =
        λ i. record {
          kinds = column_section file 2 k_in p 0 word 0 r.0 i;
          a = column_section file 2 k_in p 0 word 1 r.1.0 i;
          b = column_section file 2 k_in p 0 word 2 r.1.1.0 i;
          lows = column_section file 2 k_in p (pos 0) signed_word 3 r.1.1.1.0 i;
          highs = column_section file 2 k_in p (pos 0) signed_word 4 r.1.1.1.1 i;
        }

    links-read : part ≡ section_in file 3 → {r : Links} → LinksRead part r → r ≡ (plan_in file).links
    unfolding plan_in
    links-read p r =
        λ i. record {
          targets = column_section file 3 links_in p 0 word 0 r.0 i;
          sources = column_section file 3 links_in p 0 word 1 r.1.0 i;
          coefficients = column_section file 3 links_in p (pos 0) signed_word 2 r.1.1 i;
        }

    commands-read : part ≡ section_in file 4 → {r : Commands} → CommandsRead part r → r ≡ (plan_in file).commands
    unfolding plan_in
    commands-read p r =
        λ i. record {
          ticks = column_section file 4 commands_in p 0 word 0 r.0 i;
          inputs = column_section file 4 commands_in p 0 word 1 r.1.0 i;
          values = column_section file 4 commands_in p (pos 0) signed_word 2 r.1.1 i;
        }

  -- and all of it is the plan
  pub plan-read : {horizon : ℕ} → horizon ≡ horizon_in file
      → {p0 : List ℕ} → p0 ≡ section_in file 0 → {integrators : Integrators} → IntegratorsRead p0 integrators
      → {p1 : List ℕ} → p1 ≡ section_in file 1 → {inputs : Inputs} → InputsRead p1 inputs
      → {p2 : List ℕ} → p2 ≡ section_in file 2 → {nodes : Nodes} → NodesRead p2 nodes
      → {p3 : List ℕ} → p3 ≡ section_in file 3 → {links : Links} → LinksRead p3 links
      → {p4 : List ℕ} → p4 ≡ section_in file 4 → {commands : Commands} → CommandsRead p4 commands
      → plan_read horizon counts integrators inputs nodes links commands ≡ plan_in file
  unfolding plan_in
  plan-read h p0 r0 p1 r1 p2 r2 p3 r3 p4 r4 =
      λ i. record {
        horizon = h i;
        counts = e i;
        integrators = integrators-read p0 r0 i;
        inputs = inputs_read p1 r1 i;
        nodes = nodes-read p2 r2 i;
        links = links-read p3 r3 i;
        commands = commands-read p4 r4 i;
      }
