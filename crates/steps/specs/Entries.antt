-- Model of the code: timed entries of a tick as the code obeys them, one after the other from the next one on. What they are by the machine's
-- definitions: Laws/Entries; of a plan's commands: Laws/Commands.
use Rattle.std.specs.Prelude.{cond, List, ℕ, zero, suc, ◌+◌, ◌≤◌, ◌<◌, ℤ, eqb, set}
use Rattle.bitset.specs.Mask.{with_bit}
use Rattle.plan.specs.Numbers.{most_integrators, most_commands}
use Rattle.plan.specs.Lists.{nat_at, int_at}

-- the values of sources, the mask of the numbers that are set, and the next entry
pub record AfterEntries : Type 0 where
  pub values : List ℤ
  pub numbers : ℕ
  pub next : ℕ

abbrev pub after_entries : (values : List ℤ) (numbers next : ℕ) → AfterEntries
after_entries values numbers next = record { values = values; numbers = numbers; next = next }

-- with the entries' columns: ticks, numbers and the values that they set; number j is source first + j
module _ (first : ℕ) (ticks numbers : List ℕ) (settings : List ℤ) (t : ℕ) where
  -- entry e sets its number
  unfoldable pub after_entry : ℕ → AfterEntries → AfterEntries
  after_entry e a =
      let j = nat_at numbers e in after_entries (set a.values (first + j) (int_at settings e)) (with_bit a.numbers j) (e + 1)

  -- from entry e on, of `left` entries, those of tick t that stand together
  unfoldable pub after_entries_from : (e left : ℕ) → AfterEntries → AfterEntries
  after_entries_from e zero a = a
  after_entries_from e (suc left) a = cond (eqb (nat_at ticks e) t) (after_entries_from (e + 1) left (after_entry e a)) a

-- what that asks: every index below the end of its array, and numbers of integrators or of inputs, of which there are fewer
pub record EntriesInRange (first count : ℕ) (numbers : List ℕ) (next : ℕ) : Type 0 where
  pub order : next ≤ count
  pub few : count ≤ most_commands
  pub room : first ≤ most_integrators
  pub known : (e : ℕ) → e < count → nat_at numbers e < most_integrators
