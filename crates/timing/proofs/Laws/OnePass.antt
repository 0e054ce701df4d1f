-- Laws: the next instant's tick and the integrators that are due there, found in one pass over the due ticks. Assumes nothing.
use Rattle.std.specs.Prelude.{◌≡◌, Bool, true, false, List, ℕ, zero, suc, ◌+◌, ◌≤◌, ◌<◌, min, eqb, ltb}
use Rattle.std.proofs.Math.Path.{refl}
use Rattle.std.proofs.Common.{arith}
use borrow.Author.Tests.{eq-eqb, ne_eqb, lt-ltb, le-ltb, eqb-true, eqb-false, ltb-true, ltb-false}
use Rattle.bitset.specs.Mask.{mask_of}
use Rattle.bitset.proofs.Laws.Bits.{mask_of_in, mask_of_out}
use Rattle.plan.specs.Numbers.{never}
use Rattle.plan.specs.Lists.{nat_at}
use Rattle.machine.specs.Next.{least_due}
use Rattle.machine.specs.Reach.{is_due}
use Rattle.timing.specs.Soonest.{soonest_at, sooner_of}
use Rattle.timing.proofs.Laws.LeastDue.{one-due_more}

-- none is due before the least due tick
none_sooner : (d : List ℕ) (t n : ℕ) → t < least_due d n → mask_of (is_due d t) n ≡ 0
unfolding least_due is_due mask_of
none_sooner d t zero h = refl
none_sooner d t (suc n) h = rw (ne_eqb (nat_at d n) t (λ e. omega (arith, h, e)), none_sooner d t n (omega (arith, h)))

-- with none passed the tick is that which is there before
pub none_passed : (d : List ℕ) (first : ℕ) → first ≤ never → record { tick = first; due = 0 } ≡ soonest_at d 0 (min (least_due d 0) first)
unfolding least_due mask_of
none_passed d first h = let all : min never first ≡ first = omega (arith, h) in rw all

-- one integrator more, by where its due tick stands to the tick so far
module _ (d : List ℕ) (first i : ℕ) where
  abbrev here : ℕ
  here = nat_at d i

  abbrev before : ℕ
  before = min (least_due d i) first

  abbrev after : ℕ
  after = min (least_due d (i + 1)) first

  least_then : least_due d (i + 1) ≡ min (least_due d i) here
  least_then = one-due_more d i

  sooner_alone : here < before → sooner_of (soonest_at d i before) i here ≡ soonest_at d (i + 1) after
  unfolding is_due sooner_of
  sooner_alone h =
      let now : after ≡ here = omega (arith, least_then, h) in
      let one = rw (none_sooner d here i (omega (arith, h))) at (mask_of_in (is_due d here) i (eq-eqb here here refl)) in
      let tick : min before here ≡ here = omega (arith, h) in
      rw (now, tick, lt-ltb here before h, eq-eqb here here refl, one)

  beside_others : here ≡ before → sooner_of (soonest_at d i before) i here ≡ soonest_at d (i + 1) after
  unfolding is_due sooner_of
  beside_others h =
      let now : after ≡ before = omega (arith, least_then, h) in let tick : min before here ≡ before = omega (arith, h) in
      rw (now, tick, le-ltb here before (omega (arith, h)), eq-eqb here before h, mask_of_in (is_due d before) i (eq-eqb here before h))

  later_than_others : before < here → sooner_of (soonest_at d i before) i here ≡ soonest_at d (i + 1) after
  unfolding is_due sooner_of
  later_than_others h =
      let now : after ≡ before = omega (arith, least_then, h) in let other = ne_eqb here before (λ e. omega (arith, h, e)) in
      let tick : min before here ≡ before = omega (arith, h) in
      rw (now, tick, le-ltb here before (omega (arith, h)), other, mask_of_out (is_due d before) i other)

  pub one_more : sooner_of (soonest_at d i before) i here ≡ soonest_at d (i + 1) after
  one_more = go (ltb here before) refl (eqb here before) refl
    where
      go : (l : Bool) → ltb here before ≡ l → (e : Bool) → eqb here before ≡ e → sooner_of (soonest_at d i before) i here ≡ soonest_at d (i + 1) after
      go true l e f = sooner_alone (ltb-true here before l)
      go false l true f = beside_others (eqb-true here before f)
      go false l false f =
          let least = ltb-false here before l in let other = eqb-false here before f in later_than_others (omega (arith, least, other))
