-- Laws: a sound state by the clauses that the laws of an instant go by: those on what is held, which do not depend on who moves, and those
-- on each integrator. Laws/SoundTest shows, by `clauses_words` and `words_clauses`, that they are "A sound state" of document 01.
use Rattle.std.specs.Prelude.{◌≡◌, ℕ, ◌*◌, ◌≤◌, ◌<◌}
use Rattle.integers.specs.Parts.{∣◌∣}
use Rattle.plan.specs.Numbers.{M}
use Rattle.plan.specs.Lists.{nat_at, int_at}
use Rattle.plan.specs.Rules.{Within, PlanRules}
use Rattle.plan.specs.Unused.{NatsZeroFrom, IntsZeroFrom, PlanUnusedZero}
use Rattle.plan.proofs.Laws.CountLimits.{CountLimits, count-limits}
use Rattle.plan.specs.declared.Plan.{Plan}
use Rattle.machine.specs.Due.{due_of}
use Rattle.machine.specs.Next.{next_command}
use Rattle.machine.specs.Held.{Held, held_of, slope_of}
use Rattle.machine.proofs.Laws.BetweenLevels.{BetweenLevels}
use Rattle.machine.specs.declared.Running.{Running}

-- what stands next, at the clock
pub record NextByRule (p : Plan) (clock : ℕ) (h : Held) : Type 0 where
  -- "the next command is the first with tick above c, or the command count if none"
  pub command : h.next ≡ next_command p clock

-- what is held, at the clock
pub record SoundHeld (p : Plan) (clock : ℕ) (h : Held) : Type 0 where
  -- "|q| ≤ M"
  pub outputs : (i : ℕ) → i < p.counts.n → ∣ int_at h.q i ∣ ≤ M
  -- "inputs are within ±M"
  pub inputs : (j : ℕ) → j < p.counts.m → Within M (int_at h.inputs j)
  pub next : NextByRule p clock h
  -- "instants ≤ c"
  pub instants : h.instants ≤ clock
  -- "unused entries are 0"
  pub unused_outputs : IntsZeroFrom p.counts.n h.q
  pub unused-inputs : IntsZeroFrom p.counts.m h.inputs

-- integrator i
pub record SoundIntegrator (p : Plan) (r : Running) (i : ℕ) : Type 0 where
  -- "l ≤ c < d"
  pub moved : nat_at r.l i ≤ r.clocks.clock
  pub ahead : r.clocks.clock < nat_at r.d i
  -- "|x−q| < D": strictly between its two levels
  pub between : BetweenLevels p r.q i (int_at r.x i)
  -- "s and d keep Rate and Due"
  pub slope : int_at r.s i ≡ slope_of p (held_of r) i
  pub due : nat_at r.d i ≡ due_of p r.q i (nat_at r.l i) (int_at r.x i) (int_at r.s i)

-- "unused entries are 0", of the figures that depend on who moves
pub record MovedUnusedZero (p : Plan) (r : Running) : Type 0 where
  pub x : IntsZeroFrom p.counts.n r.x
  pub s : IntsZeroFrom p.counts.n r.s
  pub l : NatsZeroFrom p.counts.n r.l
  pub d : NatsZeroFrom p.counts.n r.d

pub record SoundRunning (p : Plan) (r : Running) : Type 0 where
  -- "its plan keeps all rules above"
  pub plan : PlanRules p
  -- "c ≤ horizon"
  pub clock : r.clocks.clock ≤ p.horizon
  pub integrators : (i : ℕ) → i < p.counts.n → SoundIntegrator p r i
  pub held : SoundHeld p r.clocks.clock (held_of r)
  -- "updates ≤ n×instants"
  pub updates : r.clocks.updates ≤ p.counts.n * r.clocks.instants
  -- "unused entries are 0"
  pub plan-unused : PlanUnusedZero p
  pub moved-unused : MovedUnusedZero p r

-- how large the counts of its plan are
pub limits_of : {p : Plan} {r : Running} → SoundRunning p r → CountLimits p
limits_of {p} ok = count-limits p ok.plan.counts
