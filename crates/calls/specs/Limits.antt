-- Promise: the limits of docs/LIMITS.md as statements, of an accepted file, and of a sound state, whether or not a run reaches it.
use Rattle.std.specs.Prelude.{◌≡◌, ◌⊎◌, List, ℕ, ◌+◌, ◌-◌, ◌*◌, ◌^◌, ◌≤◌, ◌<◌, ℤ, pos, ◌-ℤ◌, ◌*ℤ◌, ◌≤ℤ◌, ◌<ℤ◌, eqb, length}
use Rattle.integers.specs.Parts.{∣◌∣}
use Rattle.bitset.specs.Counts.{count_of}
use Rattle.plan.specs.Numbers.{M, never}
use Rattle.plan.specs.Format.{offset_in, length_in}
use Rattle.plan.specs.Lists.{nat_at, int_at}
use Rattle.plan.specs.Refusals.{section_of, section_start}
use Rattle.plan.specs.declared.Plan.{Plan}
use Rattle.machine.specs.Values.{value_of, sum_over, rate_of}
use Rattle.machine.specs.Due.{upper_level, lower_level, distance, ticks_to}
use Rattle.machine.specs.Instant.{position_at, next_tick_of, events_of}
use Rattle.machine.specs.Status.{status_of}
use Rattle.machine.specs.Runs.{events_of_run, room_of, position_of}
use Rattle.machine.specs.declared.Running.{Running}
use Rattle.machine.specs.declared.State.{State}
use Rattle.machine.specs.declared.Engine.{Engine}
use Rattle.machine.specs.declared.Status.TheVariants.{Paused}
use Rattle.calls.specs.Calls.{load_of, write_of, run_of, positioned_of}
use Rattle.calls.specs.declared.Ran.{Ran}

-- of what a run answers
pub record RunLimits (answer : Ran) : Type 0 where
  pub number : answer.number ≤ 14
  pub status : answer.status ≤ 2
  pub integrator : answer.integrator ≤ 31
  pub written : answer.written ≤ 491520

-- of an accepted file
pub record AcceptedLimits (file : List ℕ) : Type 0 where
  pub shortest : 52 ≤ length file
  pub longest : length file ≤ 4492
  -- of a section view: how long it is, and that it ends inside the file
  pub view : (number : ℕ) → number ≤ 4 → length (section_of file number) ≤ 3072
  pub view-end : (number : ℕ) → number ≤ 4 → section_start file number + length (section_of file number) ≤ length file

-- of any file: its directory, whatever it says, and its answer
pub record FileLimits (file : List ℕ) : Type 0 where
  pub offset : (section : ℕ) → offset_in file section < 2 ^ 32
  pub size : (section : ℕ) → length_in file section < 2 ^ 32
  pub end : (section : ℕ) → offset_in file section + length_in file section < 2 ^ 33
  pub number : (load_of file).number ≤ 9
  pub entry : (load_of file).entry ≤ 255

-- of what the other calls answer on any state
pub record AnswerLimits (st : State) : Type 0 where
  pub write : (buffer : List ℕ) → ((write_of st buffer).number ≤ 14) × ((write_of st buffer).length ≤ 4492)
  pub written : (buffer : List ℕ) → (write_of st buffer).number ≡ 0 → 52 ≤ (write_of st buffer).length
  pub position : (i : ℕ) → ((positioned_of st i).number ≤ 14) × (∣ (positioned_of st i).value ∣ < 2 ^ 31)
  pub run : (engine : Engine) (budget : ℕ) (buffer : List ℕ) → RunLimits (run_of engine st budget buffer)

-- of what a rate is made of, with outputs q and input values u within ±M, for a plan that keeps its rules
pub record RateLimits (p : Plan) (q u : List ℤ) : Type 0 where
  pub sources : (1 ≤ p.counts.n + p.counts.m + p.counts.k) × (p.counts.n + p.counts.m + p.counts.k ≤ 56)
  pub operands : (j : ℕ) → j < p.counts.k → (nat_at p.nodes.a j ≤ 54) × (nat_at p.nodes.b j ≤ 54)
  -- the value of every source, so of a node's operands; their difference and product before the clip
  pub values : (i : ℕ) → ∣ value_of p q u i ∣ ≤ M
  pub differences : (i j : ℕ) → ∣ value_of p q u i -ℤ value_of p q u j ∣ ≤ 2 ^ 31
  pub products : (i j : ℕ) → ∣ value_of p q u i *ℤ value_of p q u j ∣ ≤ 2 ^ 60
  -- the links of an integrator, what each adds, and the sum so far
  pub own-links : (i : ℕ) → count_of (λ e. eqb (nat_at p.links.targets e) i) p.counts.links ≤ 56
  pub terms : (e : ℕ) → e < p.counts.links → ∣ int_at p.links.coefficients e *ℤ value_of p q u (nat_at p.links.sources e) ∣ ≤ 2 ^ 54
  pub sums : (i e : ℕ) → e ≤ p.counts.links → ∣ sum_over p q u i e ∣ ≤ 56 * 2 ^ 54
  pub rate : (i : ℕ) → ∣ rate_of p q u i ∣ ≤ 56 * 2 ^ 38

-- of integrator i's levels, its distance to the level ahead and the ticks to it, for x strictly between the levels
module _ (p : Plan) (q : List ℤ) (i : ℕ) (x s : ℤ) where
  pub record LevelLimits : Type 0 where
    pub upper : ∣ upper_level p q i ∣ ≤ 2 ^ 31
    pub lower : ∣ lower_level p q i ∣ ≤ 2 ^ 31
    pub stored : ∣ x ∣ < 2 ^ 31
    pub nearest : pos 1 ≤ℤ distance x (upper_level p q i) (lower_level p q i) s
    pub farthest : distance x (upper_level p q i) (lower_level p q i) s <ℤ pos (2 ^ 31)
    pub soonest : 1 ≤ ticks_to x (upper_level p q i) (lower_level p q i) s
    pub latest : ticks_to x (upper_level p q i) (lower_level p q i) s < 2 ^ 31

-- of a sound state
module _ (p : Plan) (r : Running) where
  -- of integrator i
  pub record IntegratorLimits (i : ℕ) : Type 0 where
    pub levels : LevelLimits p r.q i (int_at r.x i) (int_at r.s i)
    pub position : ∣ position_of r i ∣ < 2 ^ 31
    -- before its due tick it stays strictly between its levels
    pub above : (t : ℕ) → r.clocks.clock ≤ t → t < nat_at r.d i → lower_level p r.q i <ℤ position_at r t i
    pub below : (t : ℕ) → r.clocks.clock ≤ t → t < nat_at r.d i → position_at r t i <ℤ upper_level p r.q i
    pub slope : ∣ int_at r.s i ∣ ≤ 56 * 2 ^ 38
    pub due : (nat_at r.d i ≡ never) ⊎ (nat_at r.d i ≤ 2000000000 + (2 ^ 31 - 1))
    -- of one that moves: a tick, which never is not
    pub moving : (int_at r.s i ≡ pos 0 → ⊥) → nat_at r.d i < never
    -- up to the due tick
    pub elapsed : (t : ℕ) → r.clocks.clock ≤ t → t ≤ nat_at r.d i → ∣ int_at r.s i *ℤ pos (t - nat_at r.l i) ∣ < 2 ^ 32 + 2 ^ 44
    pub value : ∣ position_at r (nat_at r.d i) i ∣ < 2 ^ 32 + 2 ^ 44

  -- of the numbers that the listing program prints, by their digits: tick, source and value of an event; clock, instants and updates
  pub record PrintedLimits : Type 0 where
    pub tick : status_of p r ≡ Paused → next_tick_of p r < 10 ^ 10
    pub source : p.counts.n + p.counts.m ≤ 10 ^ 2
    pub output : status_of p r ≡ Paused → (i : ℕ) → i < p.counts.n → nat_at r.d i ≡ next_tick_of p r → ∣ position_at r (next_tick_of p r) i ∣ < 10 ^ 10
    pub setting : (e : ℕ) → e < p.counts.commands → ∣ int_at p.commands.values e ∣ < 10 ^ 10
    pub clock : r.clocks.clock < 10 ^ 10
    pub instants : r.clocks.instants < 10 ^ 10
    pub updates : r.clocks.updates < 10 ^ 11

  pub record StateLimits : Type 0 where
    pub rates : RateLimits p r.q r.inputs
    pub integrators : (i : ℕ) → i < p.counts.n → IntegratorLimits i
    pub tick : status_of p r ≡ Paused → (r.clocks.clock < next_tick_of p r) × (next_tick_of p r ≤ p.horizon)
    pub next : r.clocks.next ≤ 64
    pub instants : r.clocks.instants ≤ 2000000000
    pub updates : r.clocks.updates ≤ 32 * 2000000000
    -- the bytes of an instant's events, of a run's, and of the listing program's runs
    pub instant : length (events_of p r) ≤ 480
    pub bytes : (engine : Engine) (budget : ℕ) → length (events_of_run p engine budget r) ≤ room_of p budget
    pub room : (budget : ℕ) → budget ≤ 1024 → room_of p budget ≤ 491520
    pub listing : room_of p 64 ≤ 30720
    pub printed : PrintedLimits
