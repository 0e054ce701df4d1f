-- Model of the code: the clauses of a sound state on an integrator's own figures, as the code tests them. That they are document 01's:
-- `soundness`, Laws/RunningTests.
use Rattle.std.specs.Prelude.{Bool, ◌&&◌, List, ℕ, ◌*◌, ◌≤◌, ◌<◌, ℤ, pos, ◌-ℤ◌, ◌≤ℤ◌, leb, ltb, eqb}
use Rattle.std.specs.Int.Signed.{lt_z}
use Rattle.integers.specs.Parts.{∣◌∣}
use Rattle.plan.specs.Numbers.{M, largest_horizon}
use Rattle.plan.specs.Lists.{int_at}
use Rattle.machine.specs.Values.{slope_limit}
use Rattle.machine.specs.Due.{due_tick}
use Rattle.timing.specs.Ticks.{upper_in, lower_in, LevelReady}

-- `integrator_sound`, of an integrator with these levels, whose slope has to be `slope`
unfoldable pub figures_sound : (upper lower slope : ℤ) (clock : ℕ) (x s : ℤ) (l d : ℕ) → Bool
figures_sound upper lower slope clock x s l d =
    leb l clock && ltb clock d
    && lt_z lower x && lt_z x upper
    && eqb ∣ s -ℤ slope ∣ 0
    && eqb d (due_tick l x upper lower s)

-- what the test asks
pub record FiguresReady (upper lower slope : ℤ) (clock : ℕ) : Type 0 where
  pub early : clock ≤ largest_horizon
  pub apart : (upper -ℤ lower) ≤ℤ pos (2 * M)
  pub slow : ∣ slope ∣ < slope_limit

-- of integrator i: its levels, and the test by them
pub record IntegratorReady (quanta slopes : List ℤ) (clock : ℕ) (q : List ℤ) (i : ℕ) : Type 0 where
  pub level : LevelReady (int_at q i) (int_at quanta i)
  pub figures : FiguresReady (upper_in q quanta i) (lower_in q quanta i) (int_at slopes i) clock

abbrev pub IntegratorsReady : (n : ℕ) (quanta slopes : List ℤ) (clock : ℕ) (q : List ℤ) → Type 0
IntegratorsReady n quanta slopes clock q = (i : ℕ) → i < n → IntegratorReady quanta slopes clock q i
