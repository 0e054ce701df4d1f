-- Binding definition: "Due", for every position, also one past a level. "The least T ≥ 1" stands here as a proposition too; `ticks-least`
-- of Laws/Due shows that they agree.
use Rattle.std.specs.Prelude.{cond, List, ℕ, ◌+◌, ◌≤◌, max, ℤ, pos, ◌+ℤ◌, ◌-ℤ◌, ◌*ℤ◌, ◌≤ℤ◌, ◌<ℤ◌, eqb}
use Rattle.std.specs.Int.Signed.{lt_z}
use Rattle.integers.specs.Parts.{positive_part, ∣◌∣}
use Rattle.integers.specs.Division.{ceil_div}
use Rattle.plan.specs.Numbers.{never}
use Rattle.plan.specs.Lists.{int_at}
use Rattle.plan.specs.declared.Plan.{Plan}

-- "with quantum D, the upper level is q+D and the lower q−D"
unfoldable pub upper_level : Plan → List ℤ → ℕ → ℤ
upper_level p q i = int_at q i +ℤ int_at p.integrators.quanta i

unfoldable pub lower_level : Plan → List ℤ → ℕ → ℤ
lower_level p q i = int_at q i -ℤ int_at p.integrators.quanta i

-- from x to the level ahead: the upper one for a slope above 0, else the lower. It is below 0 where x is past that level
unfoldable pub distance : (x upper lower s : ℤ) → ℤ
distance x upper lower s = cond (lt_z (pos 0) s) (upper -ℤ x) (x -ℤ lower)

-- T for a slope that is not 0: the distance by the slope's size, rounded up, a distance below 0 counting as 0, and at least 1
unfoldable pub ticks_to : (x upper lower s : ℤ) → ℕ
ticks_to x upper lower s = max 1 (ceil_div (positive_part (distance x upper lower s)) ∣ s ∣)

-- d, from l, x, the levels and s: "for s = 0 d is never"
unfoldable pub due_tick : (l : ℕ) (x upper lower s : ℤ) → ℕ
due_tick l x upper lower s = cond (eqb ∣ s ∣ 0) never (l + ticks_to x upper lower s)

-- the same for integrator i of a plan, with the outputs q
unfoldable pub due_of : (p : Plan) (q : List ℤ) (i l : ℕ) (x s : ℤ) → ℕ
due_of p q i l x s = due_tick l x (upper_level p q i) (lower_level p q i) s

-- in document 01's words: after T ticks x is at or past the level ahead
pub record AtLevel (x upper lower s : ℤ) (T : ℕ) : Type 0 where
  -- "For s > 0, .. x+s×T ≥ q+D"
  pub rising : pos 0 <ℤ s → upper ≤ℤ (x +ℤ s *ℤ pos T)
  -- "for s < 0 .. x+s×T ≤ q−D"
  pub falling : s <ℤ pos 0 → (x +ℤ s *ℤ pos T) ≤ℤ lower

-- "the least T ≥ 1"
pub record LeastTicks (x upper lower s : ℤ) (T : ℕ) : Type 0 where
  pub positive : 1 ≤ T
  pub there : AtLevel x upper lower s T
  pub least : (T' : ℕ) → 1 ≤ T' → AtLevel x upper lower s T' → T ≤ T'
