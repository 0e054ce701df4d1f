-- Binding definition: the update count that demand 3 asks for, by how much it grows at each instant, from the plain machine's due ticks
-- alone.
use Rattle.std.specs.Prelude.{Bool, true, false, cond, ℕ, zero, suc, ◌+◌, eqb}
use Rattle.bitset.specs.Counts.{count_of}
use Rattle.plan.specs.Lists.{nat_at}
use Rattle.plan.specs.declared.Plan.{Plan}
use Rattle.machine.specs.Plain.{Plain, plain_after, lazy_count}
use Rattle.machine.specs.declared.Running.{Running}
use Rattle.machine.specs.declared.Engine.{Engine}
use Rattle.machine.specs.declared.Engine.TheVariants.{Lazy, Eager}

-- "At it updates grow by n if that call is eager, else by the number that step 5 moves for the lazy engine, with the plain machine's due
-- ticks": from the plain machine before the instant
unfoldable pub growth : Plan → Engine → Plain → ℕ
growth p Lazy plain = lazy_count p plain
growth p Eager plain = p.counts.n

-- the growth over the instants 1 to `last`
unfoldable pub growth_up_to : Plan → (ℕ → Engine) → ℕ → ℕ
growth_up_to p engine zero = 0
growth_up_to p engine (suc last) = growth_up_to p engine last + growth p (engine (last + 1)) (plain_after p last)

-- ---- the same by calls: n for each instant that an eager call took, and the number due or reached for each that a lazy call took
unfoldable pub is_eager : Engine → Bool
is_eager Lazy = false
is_eager Eager = true

-- how many of the instants 1 to `last` an eager call took
unfoldable pub eager_instants : (ℕ → Engine) → ℕ → ℕ
eager_instants engine last = count_of (λ i. is_eager (engine (i + 1))) last

-- over those of the instants 1 to `last` that a lazy call took: the number due or reached, added up
unfoldable pub lazy_growth : Plan → (ℕ → Engine) → ℕ → ℕ
lazy_growth p engine zero = 0
lazy_growth p engine (suc last) = lazy_growth p engine last + cond (is_eager (engine (last + 1))) 0 (lazy_count p (plain_after p last))

-- "the number of integrators with l = c"
unfoldable pub moved_now : Plan → Running → ℕ
moved_now p r = count_of (λ i. eqb (nat_at r.l i) r.clocks.clock) p.counts.n
