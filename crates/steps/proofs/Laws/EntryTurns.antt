-- Laws: the turns of the loop that obeys the entries of a tick: one more entry, one of another tick, and none left. Assumes nothing.
use Rattle.std.specs.Prelude.{◌≡◌, true, false, List, ℤ, eqb}
use Rattle.std.proofs.Math.Path.{refl}
use Prim.Native.Nat.{ℕ, zero, suc, ◌+◌, ◌-◌, ◌≤◌, ◌<◌}
use native.Mathlib.Omega.{arith}
use Rattle.plan.specs.Lists.{nat_at}
use Rattle.steps.specs.Entries.{AfterEntries, after_entry, after_entries_from}

module _ (first : ℕ) (ticks numbers : List ℕ) (settings : List ℤ) (t e count : ℕ) (a : AfterEntries) where
  pub one_more : e < count → eqb (nat_at ticks e) t ≡ true
      → after_entries_from first ticks numbers settings t (e + 1) (count - (e + 1)) (after_entry first ticks numbers settings t e a)
      ≡ after_entries_from first ticks numbers settings t e (count - e) a
  unfolding after_entries_from
  one_more h same = let more : count - e ≡ suc (count - (e + 1)) = omega arith in rw (more, same)

  pub other_tick : eqb (nat_at ticks e) t ≡ false → after_entries_from first ticks numbers settings t e (count - e) a ≡ a
  unfolding after_entries_from
  other_tick other = go (count - e)
    where
      go : (left : ℕ) → after_entries_from first ticks numbers settings t e left a ≡ a
      go zero = refl
      go (suc left) = rw other

  pub none_left : count ≤ e → after_entries_from first ticks numbers settings t e (count - e) a ≡ a
  unfolding after_entries_from
  none_left h = let none : count - e ≡ zero = omega arith in rw none
