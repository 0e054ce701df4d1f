-- Model of the code: the due ticks of a start, and what they ask. Laws/Starts shows it for every plan that keeps its rules.
use Rattle.std.specs.Prelude.{List, ℕ, ◌<◌, ℤ}
use Rattle.plan.specs.Lists.{int_at}
use Rattle.plan.specs.declared.Integrators.{Integrators}
use Rattle.machine.specs.Due.{due_tick}
use Rattle.timing.specs.Ticks.{upper_in, lower_in, LevelReady, DueReady}

module _ (integrators : Integrators) (slopes : List ℤ) (i : ℕ) where
  -- integrator i's due tick at its start
  abbrev pub first_due : ℕ
  first_due =
      let starts = integrators.starts in let quanta = integrators.quanta in
      due_tick 0 (int_at starts i) (upper_in starts quanta i) (lower_in starts quanta i) (int_at slopes i)

  -- what that asks: its levels, and the due tick by them
  pub record StartReady : Type 0 where
    pub level : LevelReady (int_at integrators.starts i) (int_at integrators.quanta i)
    pub due : DueReady 0 (int_at integrators.starts i) (upper_in integrators.starts integrators.quanta i) (lower_in integrators.starts integrators.quanta i) (int_at slopes i)

abbrev pub StartsReady : (n : ℕ) (integrators : Integrators) (slopes : List ℤ) → Type 0
StartsReady n integrators slopes = (i : ℕ) → i < n → StartReady integrators slopes i
