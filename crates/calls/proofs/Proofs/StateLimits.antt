-- Proof: the limits of rates, of levels and of sound states. Assumes nothing.
use Rattle.std.specs.Prelude.{List, ℕ, ◌+◌, ◌*◌, ◌≤◌, ◌<◌, ℤ}
use Rattle.std.proofs.Math.Nat.{mul-le-mul}
use Rattle.std.proofs.Common.{arith}
use Rattle.integers.specs.Parts.{∣◌∣}
use Rattle.plan.specs.Numbers.{M}
use Rattle.plan.specs.Lists.{int_at}
use Rattle.plan.specs.Rules.{IntegratorRule, PlanRules}
use Rattle.plan.proofs.Laws.CountLimits.{CountLimits, count-limits}
use Rattle.plan.proofs.Laws.TestMeanings.{within-size}
use Rattle.plan.specs.declared.Plan.{Plan}
use Rattle.machine.specs.Due.{upper_level, lower_level}
use Rattle.machine.specs.Instant.{next_tick_of}
use Rattle.machine.specs.Runs.{events_most, room_of}
use Rattle.machine.proofs.Laws.SoundClauses.{SoundRunning}
use Rattle.machine.proofs.Laws.Held.{input-size}
use Rattle.machine.proofs.Laws.BetweenLevels.{BetweenLevels}
use Rattle.machine.proofs.Laws.Levels.{upper-size, lower-size, inside_size, distance_least, distance_most, ticks-positive, ticks-most}
use Rattle.machine.proofs.Laws.Lengths.{instant-bytes, run-bytes}
use Rattle.machine.proofs.Laws.Next.{command-most}
use Rattle.machine.proofs.Laws.OwnLinks.{sources-most, own-links}
use Rattle.machine.proofs.Laws.Positions.{position-size, stays_inside, slope-size, due-most, due_tick_lem, elapsed-size, value_at_due}
use Rattle.machine.proofs.Laws.Sizes.{operands-most, value-size, difference_size, product_size, term-size, sum-size, rate-size}
use Rattle.machine.proofs.Laws.Soundness.{tick_after}
use Rattle.machine.proofs.Laws.Status.{is_paused_lem, tick-horizon, given_size}
use Rattle.machine.proofs.Laws.Woken.{gives_means}
use Rattle.machine.specs.declared.Running.{Running}
use Rattle.calls.specs.Limits.{RateLimits, LevelLimits, IntegratorLimits, PrintedLimits, StateLimits}

pub rate-limits : (p : Plan) (q u : List ℤ) → PlanRules p → ((i : ℕ) → i < p.counts.n → ∣ int_at q i ∣ ≤ M) → ((j : ℕ) → j < p.counts.m → ∣ int_at u j ∣ ≤ M)
    → RateLimits p q u
rate-limits p q u k a b =
    record {
      sources = (omega (arith, count-limits p k.counts), sources-most p k);
      operands = operands-most p k;
      values = value-size p q u k a b;
      differences = difference_size p q u k a b;
      products = product_size p q u k a b;
      own-links = own-links p k;
      terms = term-size p q u k a b;
      sums = sum-size p q u k a b;
      rate = rate-size p q u k a b;
    }

pub level-limits : (p : Plan) (q : List ℤ) (i : ℕ) (x s : ℤ) → IntegratorRule p i → ∣ int_at q i ∣ ≤ M → BetweenLevels p q i x → LevelLimits p q i x s
level-limits p q i x s k a b =
    record {
      upper = upper-size p q i k a;
      lower = lower-size p q i k a;
      stored = inside_size p q i k a x b;
      nearest = distance_least p q i x b s;
      farthest = distance_most p q i k x b s;
      soonest = ticks-positive x (upper_level p q i) (lower_level p q i) s;
      latest = ticks-most p q i k x b s;
    }

-- the room that a run asks, of a plan that keeps the limits of its counts
pub room_most : (p : Plan) → CountLimits p → (budget most : ℕ) → budget ≤ most → room_of p budget ≤ most * 480
unfolding room_of events_most
room_most p c budget most h =
    let sources : p.counts.n + p.counts.m ≤ 40 = omega (arith, c) in
    omega (arith, mul-le-mul h sources)

module _ (p : Plan) (r : Running) (sound : SoundRunning p r) where
  limits : CountLimits p
  limits = count-limits p sound.plan.counts

  integrator-limits : (i : ℕ) → i < p.counts.n → IntegratorLimits p r i
  integrator-limits i h =
      let k = sound.integrators i h in record {
        levels = level-limits p r.q i (int_at r.x i) (int_at r.s i) (sound.plan.integrators i h) (sound.held.outputs i h) k.between;
        position = position-size p r sound i h;
        above = λ t a b. (stays_inside p r sound i h t a b).above;
        below = λ t a b. (stays_inside p r sound i h t a b).below;
        slope = slope-size p r sound i h;
        due = due-most p r sound i h;
        moving = due_tick_lem p r sound i h;
        elapsed = elapsed-size p r sound i h;
        value = value_at_due p r sound i h;
      }

  printed-limits : PrintedLimits p r
  printed-limits =
      let ticks : p.horizon ≤ 2000000000 = sound.plan.horizon.1 in record {
        tick = λ e. omega (arith, tick-horizon p r (is_paused_lem p r e));
        source = omega (arith, limits);
        output = λ e i h d. omega (arith, given_size p r (is_paused_lem p r e) i h ((gives_means r.d (next_tick_of p r) i).1 d));
        setting = λ e h. omega (arith, (within-size M (int_at p.commands.values e)).0 (sound.plan.commands e h).value);
        clock = omega (arith, sound.clock);
        instants = omega (arith, sound.held.instants, sound.clock);
        updates = omega (arith, sound.updates, mul-le-mul limits.n sound.held.instants, sound.clock);
      }

  pub state-limits : StateLimits p r
  unfolding room_of events_most
  state-limits =
      let instants : r.clocks.instants ≤ 2000000000 = omega (arith, sound.held.instants, sound.clock, sound.plan.horizon) in record {
        rates = rate-limits p r.q r.inputs sound.plan sound.held.outputs (input-size sound.held);
        integrators = integrator-limits;
        tick = λ e. (tick_after p r sound, tick-horizon p r (is_paused_lem p r e));
        next = omega (arith, sound.held.next.command, command-most p r.clocks.clock, limits.commands);
        instants = instants;
        updates = omega (arith, sound.updates, mul-le-mul limits.n instants);
        instant = omega (arith, instant-bytes p r, limits);
        bytes = λ engine budget. run-bytes p engine budget r;
        room = λ budget h. room_most p limits budget 1024 h;
        listing = room_most p limits 64 64 (omega arith);
        printed = printed-limits;
      }
