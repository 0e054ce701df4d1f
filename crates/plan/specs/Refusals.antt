-- Binding definition: "When a call declines", 1 to 9: what a file is refused for, tried in order, with the lowest faulty entry; and the
-- section view.
use Rattle.std.specs.Prelude.{Bool, cond, ◌&&◌, List, [], ℕ, zero, suc, ◌+◌, ltb, is_ok, Result, Ok, Err}
use Rattle.plan.specs.Numbers.{sections, acceptance, refused_short, refused_offsets, refused_sizes, refused_horizon, refused_integrator, refused_input, refused_node, refused_link, refused_command}
use Rattle.plan.specs.Numbers.{refused_unsound, refused_budget, refused_run_buffer, refused_write_buffer, refused_integrator_number}
use Rattle.plan.specs.Format.{offset_in, section_in, plan_in}
use Rattle.plan.specs.Tests.{long_enough, offsets_kept, sizes_kept, horizon_kept, integrator_kept, input_kept, node_kept, link_limits_kept}
use Rattle.plan.specs.Tests.{link_ordered, command_limits_kept, command_ordered}
use Rattle.plan.specs.declared.Plan.{Plan}
use Rattle.plan.specs.declared.Refusal.{Refusal}
use Rattle.plan.specs.declared.Refusal.TheVariants.{Short, Offsets, Sizes, Horizon, Integrator, Input, Node, Link, Command}
use Rattle.plan.specs.declared.Refusal.TheVariants.{Unsound, Budget, RunBuffer, WriteBuffer, IntegratorNumber}

-- document 01's number of each refusal
unfoldable pub refusal_number : Refusal → ℕ
refusal_number Short = refused_short
refusal_number Offsets = refused_offsets
refusal_number Sizes = refused_sizes
refusal_number Horizon = refused_horizon
refusal_number (Integrator i) = refused_integrator
refusal_number (Input j) = refused_input
refusal_number (Node j) = refused_node
refusal_number (Link e) = refused_link
refusal_number (Command e) = refused_command
refusal_number Unsound = refused_unsound
refusal_number Budget = refused_budget
refusal_number RunBuffer = refused_run_buffer
refusal_number WriteBuffer = refused_write_buffer
refusal_number IntegratorNumber = refused_integrator_number

-- and its entry: "lowest faulty entry of that section (0 for 1 to 4)"
unfoldable pub refusal_entry : Refusal → ℕ
refusal_entry (Integrator i) = i
refusal_entry (Input j) = j
refusal_entry (Node j) = j
refusal_entry (Link e) = e
refusal_entry (Command e) = e
refusal_entry other = 0

-- What a check finds: nothing, or the first refusal. Its number, and its entry.
abbrev pub Finding : Type 0
Finding = Result Unit Refusal

unfoldable pub number_of : Finding → ℕ
number_of (Ok u) = acceptance
number_of (Err refusal) = refusal_number refusal

unfoldable pub entry_of : Finding → ℕ
entry_of (Ok u) = 0
entry_of (Err refusal) = refusal_entry refusal

unfoldable pub is_clean : Finding → Bool
is_clean finding = is_ok finding

-- the refusal where a rule is broken
abbrev pub unless : Bool → Refusal → Finding
unless kept refusal = cond kept (Ok tt) (Err refusal)

-- the first finding, or else the next
unfoldable pub or_else : Finding → Finding → Finding
or_else (Ok u) next = next
or_else (Err refusal) next = Err refusal

-- the first finding of the `left` entries from i on: that of the lowest faulty entry
unfoldable pub first_finding : (ℕ → Finding) → ℕ → ℕ → Finding
first_finding at i zero = Ok tt
first_finding at i (suc left) = or_else (at i) (first_finding at (i + 1) left)

module _ (p : Plan) where
  -- 4 to 9, each over the whole of its section. "an order fault is the later entry's": it is found at the entry that does not ascend
  unfoldable pub horizon_finding : Finding
  horizon_finding = unless (horizon_kept p.horizon) Horizon

  unfoldable pub integrators_finding : Finding
  integrators_finding = first_finding (λ i. unless (integrator_kept p i) (Integrator i)) 0 p.counts.n

  unfoldable pub inputs_finding : Finding
  inputs_finding = first_finding (λ j. unless (input_kept p j) (Input j)) 0 p.counts.m

  unfoldable pub nodes_finding : Finding
  nodes_finding = first_finding (λ j. unless (node_kept p j) (Node j)) 0 p.counts.k

  unfoldable pub links_finding : Finding
  links_finding = first_finding (λ e. unless (link_limits_kept p e && link_ordered p e) (Link e)) 0 p.counts.links

  unfoldable pub commands_finding : Finding
  commands_finding = first_finding (λ e. unless (command_limits_kept p e && command_ordered p e) (Command e)) 0 p.counts.commands

  -- the rules 4 to 9 of a plan, in order
  unfoldable pub plan_finding : Finding
  plan_finding =
      or_else horizon_finding (or_else integrators_finding (or_else inputs_finding (or_else nodes_finding (or_else links_finding commands_finding))))

-- "Load tries 1 to 9 and returns number, lowest faulty entry"
unfoldable pub finding_of : List ℕ → Finding
finding_of file =
    or_else (unless (long_enough file) Short)
    (or_else (unless (offsets_kept file) Offsets) (or_else (unless (sizes_kept file) Sizes) (plan_finding (plan_in file))))

unfoldable pub accepted : List ℕ → Bool
accepted file = is_clean (finding_of file)

-- "hands back that part of the caller's own file, or an empty part if the file would be refused or the number is above 4"
unfoldable pub section_of : List ℕ → ℕ → List ℕ
section_of file number = cond (accepted file && ltb number sections) (section_in file number) []

-- where that part starts: at its section's offset. Where an empty part of a refused file lies, or of a number above 4, is free; it is the start.
unfoldable pub section_start : List ℕ → ℕ → ℕ
section_start file number = cond (accepted file && ltb number sections) (offset_in file number) 0
