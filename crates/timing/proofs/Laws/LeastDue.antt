-- Laws: the least due tick with one integrator more, and with four. Assumes nothing.
use Rattle.std.specs.Prelude.{◌≡◌, List, ℕ, ◌+◌, min}
use Rattle.std.proofs.Common.{add_assoc, add-one, arith}
use Rattle.plan.specs.Lists.{nat_at}
use Rattle.machine.specs.Next.{least_due}
use Rattle.timing.specs.Soonest.{least_of_four}

pub one-due_more : (d : List ℕ) (i : ℕ) → least_due d (i + 1) ≡ min (least_due d i) (nat_at d i)
unfolding least_due
one-due_more d i = rw (add-one i)

-- two by two, since every `min` is two cases to `omega`
two_dues_more : (d : List ℕ) (i : ℕ) → least_due d (i + 2) ≡ min (least_due d i) (min (nat_at d i) (nat_at d (i + 1)))
two_dues_more d i = omega (arith, one-due_more d i, simp add_assoc at (one-due_more d (i + 1)))

pub four_dues_more : (d : List ℕ) (i : ℕ) → least_due d (i + 4) ≡ min (least_due d i) (least_of_four d i)
four_dues_more d i = omega (arith, two_dues_more d i, simp add_assoc at (two_dues_more d (i + 2)))
