-- Model of the code: the next instant's tick with the integrators that are due there, and how one integrator more changes them. That the
-- integrators one by one come to the same: Laws/OnePass. The least due tick four at a time: Laws/LeastDue.
use Rattle.std.specs.Prelude.{cond, List, ℕ, ◌+◌, min, eqb, ltb}
use Rattle.bitset.specs.Mask.{mask_of, with_bit}
use Rattle.plan.specs.Lists.{nat_at}
use Rattle.machine.specs.Reach.{is_due}
use Rattle.timing.specs.declared.soonest.Soonest.{Soonest}

-- t, and those of the first n integrators that are due at t
abbrev pub soonest_at : (d : List ℕ) (n t : ℕ) → Soonest
soonest_at d n t = record { tick = t; due = mask_of (is_due d t) n }

-- with integrator i, whose due tick is d
unfoldable pub sooner_of : (soonest : Soonest) (i d : ℕ) → Soonest
sooner_of soonest i d =
    let kept = cond (ltb d soonest.tick) 0 soonest.due in let tick = min soonest.tick d in
    record { tick = tick; due = cond (eqb d tick) (with_bit kept i) kept }

-- the least of the four due ticks from place i on, in pairs
abbrev pub least_of_four : (d : List ℕ) (i : ℕ) → ℕ
least_of_four d i = min (min (nat_at d i) (nat_at d (i + 1))) (min (nat_at d (i + 2)) (nat_at d (i + 3)))
