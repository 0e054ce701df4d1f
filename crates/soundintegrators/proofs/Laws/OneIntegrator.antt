-- Laws: the tests of one integrator's figures: what the code's comparisons say, and what the due tick asks. A signed local z is seen as
-- `rd z`, the number read back from its bits. Assumes nothing.
use Rattle.std.specs.Prelude.{◌≡◌, Bool, true, false, not, List, [], ◌∷◌, ℕ, ℤ, ◌-ℤ◌, leb, ltb, eqb}
use Rattle.std.proofs.Math.Path.{refl}
use Rattle.std.proofs.Common.{ap, arith, SFits, of_z, to_z-of_z, leb-true}
use Rattle.std.specs.Int.Signed.{lt_z, le_z}
use Rattle.std.specs.Int.{w64}
use Rattle.integers.specs.Parts.{∣◌∣}
use Rattle.integers.proofs.Laws.Parts.{zs}
use Rattle.integers.proofs.Laws.Signed64.{rd, same_bits}
use Rattle.plan.specs.Lists.{nat_at, int_at, every}
use Rattle.plan.proofs.Laws.TestMeanings.{same_means, means_false}
use Rattle.machine.specs.Due.{due_tick}
use Rattle.timing.specs.Ticks.{upper_in, lower_in, DueReady}
use Rattle.soundintegrators.specs.Figures.{figures_sound, FiguresReady}
use Rattle.unusedentries.proofs.Laws.EarlyReturns.{passes}

-- the tests of integrator i, where the numbers stand in arrays
abbrev pub figures_in : (quanta slopes : List ℤ) (clock : ℕ) (x q s : List ℤ) (l d : List ℕ) (i : ℕ) → Bool
figures_in quanta slopes clock x q s l d i =
    figures_sound (upper_in q quanta i) (lower_in q quanta i) (int_at slopes i) clock (int_at x i) (int_at s i) (nat_at l i) (nat_at d i)

not_at_most : (a b : ℤ) (t : Bool) → le_z a b ≡ t → lt_z b a ≡ not t
not_at_most a b true e = omega (arith, zs)
not_at_most a b false e = omega (arith, zs)

module _ (upper lower slope : ℤ) (clock : ℕ) (x s : ℤ) (l d : ℕ) where
  -- in the order of the code, which is the definition's
  abbrev pub figure_clauses : List Bool
  figure_clauses =
      leb l clock
      ∷ ltb clock d
      ∷ lt_z lower x
      ∷ lt_z x upper
      ∷ eqb ∣ s -ℤ slope ∣ 0
      ∷ eqb d (due_tick l x upper lower s)
      ∷ []

  pub figure_tests : passes figure_clauses 6 ≡ figures_sound upper lower slope clock x s l d
  unfolding passes every figures_sound
  figure_tests = refl

-- ---- the slope
-- `==` on signed numbers compares their bits
pub same_slope : {s slope : ℤ} → SFits w64 s → SFits w64 slope → of_z w64 s ≡ of_z w64 slope → eqb ∣ s -ℤ slope ∣ 0 ≡ true
same_slope {s} {slope} f g e = (same_means s slope).1 (same_bits f g e)

pub other_slope : (s slope : ℤ) → (of_z w64 s ≡ of_z w64 slope → ⊥) → eqb ∣ s -ℤ slope ∣ 0 ≡ false
other_slope s slope h = means_false (same_means s slope).0 (λ e. h (ap (of_z w64) e))

-- ---- the levels
module _ {x level : ℤ} (fx : SFits w64 x) (fl : SFits w64 level) where
  pub above_lower : (t : Bool) → le_z (rd x) (rd level) ≡ t → lt_z level x ≡ not t
  above_lower t e = not_at_most x level t (rw (to_z-of_z fx, to_z-of_z fl) at e)

  pub below-upper : (t : Bool) → le_z (rd level) (rd x) ≡ t → lt_z x level ≡ not t
  below-upper t e = not_at_most level x t (rw (to_z-of_z fx, to_z-of_z fl) at e)

-- ---- the due tick, behind all tests but its own
pub due-ready : {upper lower slope : ℤ} {clock : ℕ} → FiguresReady upper lower slope clock → (x s : ℤ) (l : ℕ)
    → leb l clock ≡ true → lt_z lower x ≡ true → lt_z x upper ≡ true → eqb ∣ s -ℤ slope ∣ 0 ≡ true → DueReady l x upper lower s
due-ready {slope = slope} {clock = clock} ready x s l moved above below same =
    record {
      early = omega (arith, leb-true l clock moved, ready.early);
      above = omega (arith, zs);
      below = omega (arith, zs);
      apart = ready.apart;
      slow = rw ((same_means s slope).0 same) ready.slow;
    }
