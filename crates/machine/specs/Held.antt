-- Binding definition: what a state holds that does not depend on who moves: at the start, and after an instant. The slopes that it gives,
-- and the next instant's tick.
use Rattle.std.specs.Prelude.{List, ℕ, ◌+◌, min, ℤ, pos}
use Rattle.plan.specs.Numbers.{most_inputs}
use Rattle.plan.specs.Lists.{int_at, row}
use Rattle.plan.specs.declared.Plan.{Plan}
use Rattle.machine.specs.Values.{rate_of}
use Rattle.machine.specs.Entries.{value_then, entry_tick}
use Rattle.machine.specs.Next.{next_command, least_due}
use Rattle.machine.specs.declared.Running.{Running}

-- outputs, input values, the number of the next command, and instants
pub record Held : Type 0 where
  pub q : List ℤ
  pub inputs : List ℤ
  pub next : ℕ
  pub instants : ℕ

abbrev pub held_of : Running → Held
held_of r = record { q = r.q; inputs = r.inputs; next = r.clocks.next; instants = r.clocks.instants }

-- The running figures by what is held and by what depends on who moves, x, s, l and d; with the clock and the update count. Said here alone.
abbrev pub running_by : Held → (x s : List ℤ) (l d : List ℕ) (clock updates : ℕ) → Running
running_by h x s l d clock updates =
    record {
      x = x;
      q = h.q;
      s = s;
      l = l;
      d = d;
      inputs = h.inputs;
      clocks = record {
        clock = clock;
        next = h.next;
        instants = h.instants;
        updates = updates;
      };
    }

-- the slope of integrator i: "Rate"
unfoldable pub slope_of : Plan → Held → ℕ → ℤ
slope_of p h i = rate_of p h.q h.inputs i

-- "Start: .. q = start, .. counts 0"
abbrev pub held_start : Plan → Held
held_start p = record { q = p.integrators.starts; inputs = p.inputs.firsts; next = next_command p 0; instants = 0 }

-- the value of input j, one of the values u before, after those of the first e commands that are of tick t
abbrev pub input_then : (p : Plan) (u : List ℤ) (t j e : ℕ) → ℤ
input_then p u t j e = value_then p.commands.ticks p.commands.inputs p.commands.values t j (int_at u j) e

-- 2. "Commands of tick t set their inputs."
unfoldable pub inputs_then : Plan → List ℤ → ℕ → List ℤ
inputs_then p u t = row (pos 0) most_inputs p.counts.m (λ j. input_then p u t j p.counts.commands)

-- 2. and 6. What is held after an instant at tick t, by what was held before it and the outputs q after it. "instants grows by 1"
abbrev pub held_then : (p : Plan) (t : ℕ) → Held → (q : List ℤ) → Held
held_then p t h q = record { q = q; inputs = inputs_then p h.inputs t; next = next_command p t; instants = h.instants + 1 }

-- the tick at which the plan's entries make the next instant: "the next command's tick"
unfoldable pub entries_tick : Plan → Held → ℕ
entries_tick p h = entry_tick p.commands.ticks p.counts.commands h.next

-- "Next instant t: the least of all d and the next command's tick."
unfoldable pub next_tick : (p : Plan) (d : List ℕ) → Held → ℕ
next_tick p d h = min (least_due d p.counts.n) (entries_tick p h)
