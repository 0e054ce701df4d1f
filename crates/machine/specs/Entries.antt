-- Binding definition: timed entries in three columns, a tick, a number and a value: which of them set a number at a tick, what to, which is
-- the next, and its tick. A plan's commands are such entries; their numbers are inputs.
use Rattle.std.specs.Prelude.{Bool, cond, ◌&&◌, List, ℕ, zero, suc, ℤ, ltb, eqb}
use Rattle.plan.specs.Numbers.{never}
use Rattle.plan.specs.Lists.{nat_at, int_at, first_from}

-- entry e is of tick t and sets number j
unfoldable pub sets : (ticks numbers : List ℕ) (t j e : ℕ) → Bool
sets ticks numbers t j e = eqb (nat_at ticks e) t && eqb (nat_at numbers e) j

-- the value of number j, which was `before`, after those of the first e entries that are of tick t
unfoldable pub value_then : (ticks numbers : List ℕ) (values : List ℤ) (t j : ℕ) (before : ℤ) (e : ℕ) → ℤ
value_then ticks numbers values t j before zero = before
value_then ticks numbers values t j before (suc e) =
    cond (sets ticks numbers t j e) (int_at values e) (value_then ticks numbers values t j before e)

-- the first of `count` entries that counts and has a tick above the clock, or `count` if there is none
unfoldable pub next_entry : (ticks : List ℕ) (counting : ℕ → Bool) (count clock : ℕ) → ℕ
next_entry ticks counting count clock = first_from (λ e. ltb clock (nat_at ticks e) && counting e) 0 count

-- the tick of the entry that is next, or never where none is left
unfoldable pub entry_tick : (ticks : List ℕ) (count next : ℕ) → ℕ
entry_tick ticks count next = cond (ltb next count) (nat_at ticks next) never
