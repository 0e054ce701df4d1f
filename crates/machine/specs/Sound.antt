-- The same as a proposition: "A sound state", which SoundTest.antt has as a test, in document 01's words and order. `sound_means` of
-- Laws/SoundTest shows that they agree.
use Rattle.std.specs.Prelude.{◌≡◌, ℕ, ◌*◌, ◌≤◌, ◌<◌, pos, ◌-ℤ◌, ◌<ℤ◌, length}
use Rattle.integers.specs.Parts.{∣◌∣}
use Rattle.plan.specs.Numbers.{M, most_integrators, most_inputs}
use Rattle.plan.specs.Lists.{nat_at, int_at}
use Rattle.plan.specs.Rules.{Within, PlanRules}
use Rattle.plan.specs.Unused.{NatsZeroFrom, IntsZeroFrom, PlanUnusedZero}
use Rattle.plan.specs.declared.Plan.{Plan}
use Rattle.machine.specs.Values.{rate_of}
use Rattle.machine.specs.Due.{due_of}
use Rattle.machine.specs.Next.{next_command}
use Rattle.machine.specs.declared.Running.{Running}
use Rattle.machine.specs.declared.State.{State}

-- "unused entries are 0": those of the running figures; Unused.antt of the crate `plan` has those of the plan
pub record RunningUnusedZero (p : Plan) (r : Running) : Type 0 where
  pub x : IntsZeroFrom p.counts.n r.x
  pub q : IntsZeroFrom p.counts.n r.q
  pub s : IntsZeroFrom p.counts.n r.s
  pub l : NatsZeroFrom p.counts.n r.l
  pub d : NatsZeroFrom p.counts.n r.d
  pub inputs : IntsZeroFrom p.counts.m r.inputs

-- what is asked of integrator i
pub record IntegratorInWords (p : Plan) (r : Running) (i : ℕ) : Type 0 where
  -- "l ≤ c < d"
  pub moved : nat_at r.l i ≤ r.clocks.clock
  pub ahead : r.clocks.clock < nat_at r.d i
  -- "|q| ≤ M"
  pub output : ∣ int_at r.q i ∣ ≤ M
  -- "|x−q| < D"
  pub near : pos ∣ int_at r.x i -ℤ int_at r.q i ∣ <ℤ int_at p.integrators.quanta i
  -- "s and d keep Rate and Due"
  pub rate : int_at r.s i ≡ rate_of p r.q r.inputs i
  pub due : nat_at r.d i ≡ due_of p r.q i (nat_at r.l i) (int_at r.x i) (int_at r.s i)

pub record SoundInWords (p : Plan) (r : Running) : Type 0 where
  -- "its plan keeps all rules above"
  pub plan : PlanRules p
  -- "c ≤ horizon"
  pub clock : r.clocks.clock ≤ p.horizon
  pub integrators : (i : ℕ) → i < p.counts.n → IntegratorInWords p r i
  -- "inputs are within ±M"
  pub inputs : (j : ℕ) → j < p.counts.m → Within M (int_at r.inputs j)
  -- "the next command is the first with tick above c, or the command count if none"
  pub next : r.clocks.next ≡ next_command p r.clocks.clock
  -- "instants ≤ c; updates ≤ n×instants"
  pub instants : r.clocks.instants ≤ r.clocks.clock
  pub updates : r.clocks.updates ≤ p.counts.n * r.clocks.instants
  -- "unused entries are 0"
  pub plan-unused : PlanUnusedZero p
  pub running_unused : RunningUnusedZero p r

-- the arrays of the running figures have their full width, as those of a struct have
pub record RunningWidths (r : Running) : Type 0 where
  pub x : length r.x ≡ most_integrators
  pub q : length r.q ≡ most_integrators
  pub s : length r.s ≡ most_integrators
  pub l : length r.l ≡ most_integrators
  pub d : length r.d ≡ most_integrators
  pub inputs : length r.inputs ≡ most_inputs

abbrev pub Sound : State → Type 0
Sound st = SoundInWords st.plan st.run
