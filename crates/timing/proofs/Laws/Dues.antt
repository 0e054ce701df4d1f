-- Laws: what the levels and `due_tick` ask holds wherever a due tick is worked out: at a start and after any instant; and its answer
-- there is document 01's due tick. Assumes nothing.
use Rattle.std.specs.Prelude.{◌≡◌, List, ℕ, ◌≤◌, ◌<◌, ℤ}
use Rattle.std.proofs.Math.Path.{refl}
use Rattle.std.proofs.Common.{arith}
use Rattle.integers.specs.Parts.{∣◌∣}
use Rattle.integers.proofs.Laws.Parts.{tight, zs}
use Rattle.plan.specs.Numbers.{M}
use Rattle.plan.specs.Lists.{int_at}
use Rattle.plan.specs.Rules.{IntegratorRule, PlanRules}
use Rattle.plan.proofs.Laws.TestMeanings.{within-size}
use Rattle.plan.specs.declared.Plan.{Plan}
use Rattle.machine.specs.Values.{slope_most}
use Rattle.machine.specs.Due.{upper_level, lower_level, due_tick, due_of}
use Rattle.machine.specs.Start.{start_slope, start_due}
use Rattle.machine.specs.Instant.{Outcome, due_then}
use Rattle.machine.proofs.Laws.SoundClauses.{SoundRunning}
use Rattle.machine.proofs.Laws.BetweenLevels.{BetweenLevels, between_itself}
use Rattle.machine.proofs.Laws.Levels.{levels-apart}
use Rattle.machine.proofs.Laws.Held.{start_slope-most, slope_most_lem}
use Rattle.machine.proofs.Laws.Soundness.{Lawful}
use Rattle.machine.specs.declared.Running.{Running}
use Rattle.timing.specs.Ticks.{upper_in, lower_in, LevelReady, DueReady}

-- ---- the levels of an integrator that keeps its rule
pub level-ready : (p : Plan) (q : List ℤ) (i : ℕ) → IntegratorRule p i → ∣ int_at q i ∣ ≤ M → LevelReady (int_at q i) (int_at p.integrators.quanta i)
level-ready p q i rule output =
    let b = int_at p.integrators.quanta i in
    record { output = output; step = omega (arith, zs, rule.least, rule.most, tight b) }

-- with outputs q, from a tick up to the horizon, for x strictly between the levels, and a slope that is not too large
due-ready : (p : Plan) → PlanRules p → (q : List ℤ) (from : ℕ) → from ≤ p.horizon → (i : ℕ) → i < p.counts.n
    → (x : ℤ) → BetweenLevels p q i x → (s : ℤ) → ∣ s ∣ ≤ slope_most
    → DueReady from x (upper_in q p.integrators.quanta i) (lower_in q p.integrators.quanta i) s
unfolding upper_level lower_level
due-ready p rules q from early i used x inside s slow =
    record {
      early = omega (arith, rules.horizon.1);
      above = inside.above;
      below = inside.below;
      apart = levels-apart p q i (rules.integrators i used);
      slow = omega (arith, slow);
    }

-- ---- at the start
module _ (p : Plan) (i : ℕ) where
  abbrev starts : List ℤ
  starts = p.integrators.starts

  abbrev quanta : List ℤ
  quanta = p.integrators.quanta

  pub level-ready-start : PlanRules p → i < p.counts.n → LevelReady (int_at starts i) (int_at quanta i)
  level-ready-start rules used =
      let rule = rules.integrators i used in level-ready p starts i rule ((within-size M _).0 rule.start)

  pub due-ready-start : PlanRules p → i < p.counts.n → DueReady 0 (int_at starts i) (upper_in starts quanta i) (lower_in starts quanta i) (start_slope p i)
  unfolding start_slope
  due-ready-start rules used =
      due-ready p rules starts 0 (omega arith) i used (int_at starts i) (between_itself p starts i (rules.integrators i used) (int_at starts i) refl)
      (start_slope p i) (start_slope-most p rules i)

  pub due_is_start : due_tick 0 (int_at starts i) (upper_in starts quanta i) (lower_in starts quanta i) (start_slope p i) ≡ start_due p i
  unfolding start_due due_of upper_level lower_level
  due_is_start = refl

-- ---- after an instant of a sound state, whatever its outcome
module _ (p : Plan) (r : Running) (ok : SoundRunning p r) (t : ℕ) (o : Outcome) (lawful : Lawful p r t o) (i : ℕ) (used : i < p.counts.n) where
  pub level-ready_then : LevelReady (int_at o.held.q i) (int_at p.integrators.quanta i)
  level-ready_then = level-ready p o.held.q i (ok.plan.integrators i used) (lawful.held.outputs i used)

  pub due-ready_then : DueReady t (o.x i) (upper_in o.held.q p.integrators.quanta i) (lower_in o.held.q p.integrators.quanta i) (o.s i)
  due-ready_then =
      due-ready p ok.plan o.held.q t lawful.until i used (o.x i) (lawful.between i used) (o.s i)
      (rw (lawful.slope i used) (slope_most_lem p ok.plan t o.held lawful.held i))

pub due_is_then : (p : Plan) (t : ℕ) (o : Outcome) (i : ℕ)
    → due_tick t (o.x i) (upper_in o.held.q p.integrators.quanta i) (lower_in o.held.q p.integrators.quanta i) (o.s i) ≡ due_then p t o i
unfolding due_then due_of upper_level lower_level
due_is_then p t o i = refl
