-- Laws: the commands of a tick, as entries whose numbers are inputs, are step 2 of an instant: the inputs' values, which inputs are
-- commanded, and the next command. Assumes nothing.
use Rattle.std.specs.Prelude.{◌≡◌, List, ℕ, ◌+◌, ◌-◌, ◌≤◌, ◌<◌, ℤ, pos, length}
use Rattle.std.proofs.Common.{sym, ◌∙◌, arith}
use Rattle.bitset.specs.Mask.{mask_of}
use Rattle.plan.specs.Numbers.{source_width}
use Rattle.plan.specs.Lists.{nat_at, int_at}
use Rattle.plan.specs.Rules.{PlanRules}
use Rattle.plan.proofs.Laws.CountLimits.{count-limits}
use Rattle.plan.proofs.Laws.Rows.{row_at}
use Rattle.plan.specs.declared.Plan.{Plan}
use Rattle.machine.specs.Next.{next_command}
use Rattle.machine.specs.Reach.{is_commanded}
use Rattle.machine.specs.Held.{inputs_then}
use Rattle.machine.proofs.Laws.Next.{command-most}
use Rattle.steps.specs.Entries.{AfterEntries, after_entries, after_entries_from, EntriesInRange}
use Rattle.steps.proofs.Laws.Entries.{EntryColumns, entries_obeyed}

-- What is asked before tick t: the values of sources, with those of inputs by u, in an array of its full width, the clock before t, the
-- next command by the clock, and no command of a tick between the two.
pub record CommandsReady (p : Plan) (u values : List ℤ) (clock t next : ℕ) : Type 0 where
  pub width : length values ≡ source_width
  pub inputs : (j : ℕ) → j < p.counts.m → int_at values (p.counts.n + j) ≡ int_at u j
  pub next_is : next ≡ next_command p clock
  pub later : clock < t
  pub ahead : next < p.counts.commands → t ≤ nat_at p.commands.ticks next

-- What the commands of tick t leave.
pub record CommandsObeyed (p : Plan) (u values : List ℤ) (t : ℕ) (o : AfterEntries) : Type 0 where
  pub commanded_are : o.numbers ≡ mask_of (is_commanded p t) p.counts.m
  pub next_is : o.next ≡ next_command p t
  pub same_length : length o.values ≡ length values
  pub inputs_are : (j : ℕ) → j < p.counts.m → int_at o.values (p.counts.n + j) ≡ int_at (inputs_then p u t) j
  -- outputs and values of nodes
  pub outputs_kept : (i : ℕ) → i < p.counts.n → int_at o.values i ≡ int_at values i
  pub nodes_kept_lem : (i : ℕ) → p.counts.n + p.counts.m ≤ i → int_at o.values i ≡ int_at values i

module _ (p : Plan) (rules : PlanRules p) where
  commands_columns : EntryColumns p.counts.n p.counts.m p.commands.ticks p.commands.inputs p.counts.commands
  commands_columns =
      let limits = count-limits p rules.counts in
      record {
        ascends = λ e h. (rules.commands e h).order;
        known = λ e h. (rules.commands e h).input;
        room = omega (arith, limits.n, limits.m);
      }

  pub commands_obeyed : (u values : List ℤ) (clock t next : ℕ) → CommandsReady p u values clock t next → {o : AfterEntries}
      → o ≡ after_entries_from p.counts.n p.commands.ticks p.commands.inputs p.commands.values t next (p.counts.commands - next) (after_entries values 0 next)
      → CommandsObeyed p u values t o
  unfolding is_commanded inputs_then next_command
  commands_obeyed u values clock t next ready e =
      let done =
      entries_obeyed p.counts.n p.counts.m p.commands.ticks p.commands.inputs p.commands.values p.counts.commands commands_columns values
      ready.width t clock next (record { next_is = ready.next_is; later = ready.later; ahead = ready.ahead }) e in
      record {
        commanded_are = done.numbers_are;
        next_is = done.next_is;
        same_length = done.same_length;
        inputs_are = λ j h.
            done.values_are j h ∙ rw (ready.inputs j h) (sym (row_at (pos 0) 8 p.counts.m _ j (count-limits p rules.counts).m h));
        outputs_kept = done.below;
        nodes_kept_lem = done.above;
      }

  -- what obeying them asks
  pub commands_in_range : (next clock : ℕ) → next ≡ next_command p clock → EntriesInRange p.counts.n p.counts.commands p.commands.inputs next
  commands_in_range next clock e =
      let limits = count-limits p rules.counts in
      record {
        order = rw e (command-most p clock);
        few = limits.commands;
        room = limits.n;
        known = λ d h. omega (arith, (rules.commands d h).input, limits.m);
      }
