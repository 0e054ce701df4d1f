-- Promise: of the machine, in document 01's order and words, that its definitions do what the sentences say. Statements; the proofs stand
-- in Proofs.
use Rattle.std.specs.Prelude.{◌≡◌, true, ◌⊎◌, List, [], ◌++◌, ℕ, ◌+◌, ◌-◌, ◌*◌, ◌≤◌, ◌<◌, ℤ, pos, neg_ℤ, ◌+ℤ◌, ◌-ℤ◌, ◌*ℤ◌, ◌≤ℤ◌, ◌<ℤ◌, length}
use Rattle.integers.specs.Parts.{positive_part, ∣◌∣}
use Rattle.integers.specs.Division.{floor65536, Ceil}
use Rattle.integers.specs.Range.{limited}
use Rattle.bitset.specs.Counts.{count_of}
use Rattle.words.specs.Word.{word, signed_word}
use Rattle.plan.specs.Numbers.{M, never}
use Rattle.plan.specs.Lists.{nat_at, int_at}
use Rattle.plan.specs.Rules.{PlanRules}
use Rattle.plan.specs.declared.Plan.{Plan}
use Rattle.machine.specs.Values.{value_of, sum_over, rate_of}
use Rattle.machine.specs.Due.{distance, ticks_to, due_of, LeastTicks}
use Rattle.machine.specs.Next.{next_command}
use Rattle.machine.specs.Start.{start_state}
use Rattle.machine.specs.Reach.{changes, Changed, reached, Reached}
use Rattle.machine.specs.Instant.{position_at, moves, Moves, next_tick_of, instant, events_of}
use Rattle.machine.specs.Status.{status_number, status_integrator, status_of}
use Rattle.machine.specs.Runs.{after_run, events_of_run}
use Rattle.machine.specs.Plain.{Plain, plain_start, plain_next_tick, plain_position, plain_instant, plain_events_of, plain_status}
use Rattle.machine.specs.Plain.{plain_after, plain_events}
use Rattle.machine.specs.declared.Running.{Running}
use Rattle.machine.specs.declared.Engine.{Engine}
use Rattle.machine.specs.declared.Status.TheVariants.{Paused}

-- "Integrators give q, inputs their value, nodes their value", and what each kind makes of the values of A and B
pub record ValuePromise (p : Plan) (q u : List ℤ) : Type 0 where
  pub integrators : (i : ℕ) → i < p.counts.n → value_of p q u i ≡ int_at q i
  pub inputs : (j : ℕ) → j < p.counts.m → value_of p q u (p.counts.n + j) ≡ int_at u j
  -- "0 is a−b; 1 is floor(a×b / 65,536); both then clipped to ±M"
  pub differences : (j : ℕ) → j < p.counts.k → nat_at p.nodes.kinds j ≡ 0
      → value_of p q u (p.counts.n + p.counts.m + j) ≡ limited (neg_ℤ (pos M)) (pos M) (value_of p q u (nat_at p.nodes.a j) -ℤ value_of p q u (nat_at p.nodes.b j))
  pub products : (j : ℕ) → j < p.counts.k → nat_at p.nodes.kinds j ≡ 1
      → value_of p q u (p.counts.n + p.counts.m + j)
      ≡ limited (neg_ℤ (pos M)) (pos M) (floor65536 (value_of p q u (nat_at p.nodes.a j) *ℤ value_of p q u (nat_at p.nodes.b j)))
  -- "2 is a limited to lo..hi"
  pub limited-values : (j : ℕ) → j < p.counts.k → nat_at p.nodes.kinds j ≡ 2
      → value_of p q u (p.counts.n + p.counts.m + j) ≡ limited (int_at p.nodes.lows j) (int_at p.nodes.highs j) (value_of p q u (nat_at p.nodes.a j))
  -- "3 is hi if a ≥ b, else lo"
  pub high : (j : ℕ) → j < p.counts.k → nat_at p.nodes.kinds j ≡ 3 → value_of p q u (nat_at p.nodes.b j) ≤ℤ value_of p q u (nat_at p.nodes.a j)
      → value_of p q u (p.counts.n + p.counts.m + j) ≡ int_at p.nodes.highs j
  pub low : (j : ℕ) → j < p.counts.k → nat_at p.nodes.kinds j ≡ 3 → value_of p q u (nat_at p.nodes.a j) <ℤ value_of p q u (nat_at p.nodes.b j)
      → value_of p q u (p.counts.n + p.counts.m + j) ≡ int_at p.nodes.lows j
  -- "s = floor(sum of coefficient × source value over its links / 65,536)": the sum over the first e links, of which its own count
  pub no_link : (i : ℕ) → sum_over p q u i 0 ≡ pos 0
  pub own-link : (i e : ℕ) → nat_at p.links.targets e ≡ i
      → sum_over p q u i (e + 1) ≡ sum_over p q u i e +ℤ int_at p.links.coefficients e *ℤ value_of p q u (nat_at p.links.sources e)
  pub other_link : (i e : ℕ) → (nat_at p.links.targets e ≡ i → ⊥) → sum_over p q u i (e + 1) ≡ sum_over p q u i e
  pub rate-below : (i : ℕ) → (pos 65536 *ℤ rate_of p q u i) ≤ℤ sum_over p q u i p.counts.links
  pub rate-above : (i : ℕ) → sum_over p q u i p.counts.links <ℤ (pos 65536 *ℤ (rate_of p q u i +ℤ pos 1))

abbrev pub ValuesMean : Type 0
ValuesMean = (p : Plan) (q u : List ℤ) → PlanRules p → ValuePromise p q u

-- "Due": "d−l is the least T ≥ 1", for both directions and every x, by the levels q+D and q−D; "for s = 0 d is never"
pub record DuePromise (p : Plan) (q : List ℤ) (i l : ℕ) (x s : ℤ) : Type 0 where
  pub still : s ≡ pos 0 → due_of p q i l x s ≡ never
  pub moving : (s ≡ pos 0 → ⊥)
      → LeastTicks x (int_at q i +ℤ int_at p.integrators.quanta i) (int_at q i -ℤ int_at p.integrators.quanta i) s (due_of p q i l x s - l)

abbrev pub DueLeast : Type 0
DueLeast = (p : Plan) (q : List ℤ) (i l : ℕ) (x s : ℤ) → DuePromise p q i l x s

-- strictly between the levels, T is the distance rounded up, and moving for t ticks, fewer than T, takes t off it and stays between
pub record BetweenPromise (x upper lower s : ℤ) : Type 0 where
  pub rounded : Ceil (positive_part (distance x upper lower s)) ∣ s ∣ (ticks_to x upper lower s)
  pub countdown : (t : ℕ) → t < ticks_to x upper lower s → ticks_to x upper lower s ≡ ticks_to (x +ℤ s *ℤ pos t) upper lower s + t
  pub above : (t : ℕ) → t < ticks_to x upper lower s → lower <ℤ (x +ℤ s *ℤ pos t)
  pub below : (t : ℕ) → t < ticks_to x upper lower s → (x +ℤ s *ℤ pos t) <ℤ upper

abbrev pub DueBetween : Type 0
DueBetween = (x upper lower s : ℤ) → (s ≡ pos 0 → ⊥) → lower <ℤ x → x <ℤ upper → BetweenPromise x upper lower s

-- "the next command is the first with tick above c, or the command count if none"
pub record CommandPromise (p : Plan) (c next : ℕ) : Type 0 where
  pub earlier : (e : ℕ) → e < next → nat_at p.commands.ticks e ≤ c
  pub first : next < p.counts.commands → c < nat_at p.commands.ticks next
  pub most : next ≤ p.counts.commands

abbrev pub CommandMeans : Type 0
CommandMeans = (p : Plan) (c : ℕ) → CommandPromise p c (next_command p c)

-- "Start: x = q = start, l = c = 0, slopes and dues by rule, counts 0"
pub record StartPromise (p : Plan) (r : Running) : Type 0 where
  pub x : (i : ℕ) → i < p.counts.n → int_at r.x i ≡ int_at p.integrators.starts i
  pub q : (i : ℕ) → i < p.counts.n → int_at r.q i ≡ int_at p.integrators.starts i
  pub l : (i : ℕ) → i < p.counts.n → nat_at r.l i ≡ 0
  pub s : (i : ℕ) → i < p.counts.n → int_at r.s i ≡ rate_of p r.q r.inputs i
  pub d : (i : ℕ) → i < p.counts.n → nat_at r.d i ≡ due_of p r.q i 0 (int_at r.x i) (int_at r.s i)
  pub inputs : (j : ℕ) → j < p.counts.m → int_at r.inputs j ≡ int_at p.inputs.firsts j
  pub clock : r.clocks.clock ≡ 0
  pub next : CommandPromise p 0 r.clocks.next
  pub instants : r.clocks.instants ≡ 0
  pub updates : r.clocks.updates ≡ 0

abbrev pub StartMeans : Type 0
StartMeans = (p : Plan) → PlanRules p → ((start_state p).plan ≡ p) × StartPromise p (start_state p).run

-- "Next instant t: the least of all d and the next command's tick", and never where none of them is below
pub record NextPromise (p : Plan) (d : List ℕ) (next t : ℕ) : Type 0 where
  pub due : (i : ℕ) → i < p.counts.n → t ≤ nat_at d i
  pub command : next < p.counts.commands → t ≤ nat_at p.commands.ticks next
  pub one : t < never → ((i : ℕ) × (i < p.counts.n) × (nat_at d i ≡ t)) ⊎ ((next < p.counts.commands) × (nat_at p.commands.ticks next ≡ t))
  pub no_instant : ((i : ℕ) → i < p.counts.n → never ≤ nat_at d i) → (next < p.counts.commands → never ≤ nat_at p.commands.ticks next) → t ≡ never

abbrev pub NextMeans : Type 0
NextMeans = (p : Plan) (r : Running) → NextPromise p r.d r.clocks.next (next_tick_of p r)

-- Steps 1 and 2 at tick t: with the due ticks d and the positions at t, outputs q and input values u become q' and u'
pub record SourcesPromise (p : Plan) (d : List ℕ) (t : ℕ) (position : ℕ → ℤ) (q u q' u' : List ℤ) : Type 0 where
  -- 1. "The due integrators (d = t) take q = x+s×(t−l)." The others keep theirs
  pub due : (i : ℕ) → i < p.counts.n → nat_at d i ≡ t → int_at q' i ≡ position i
  pub not_due : (i : ℕ) → i < p.counts.n → (nat_at d i ≡ t → ⊥) → int_at q' i ≡ int_at q i
  -- 2. "Commands of tick t set their inputs." The others keep theirs
  pub set : (j e : ℕ) → j < p.counts.m → e < p.counts.commands → nat_at p.commands.ticks e ≡ t → nat_at p.commands.inputs e ≡ j → int_at u' j ≡ int_at p.commands.values e
  pub not_set : (j : ℕ) → j < p.counts.m → ((e : ℕ) → e < p.counts.commands → nat_at p.commands.ticks e ≡ t → nat_at p.commands.inputs e ≡ j → ⊥) → int_at u' j ≡ int_at u j

-- "One instant", at tick t, from the figures r to the figures r'
pub record StepPromise (p : Plan) (engine : Engine) (t : ℕ) (r r' : Running) : Type 0 where
  -- "x+s×(t−l)", where integrator i is at t
  pub position : (i : ℕ) → position_at r t i ≡ int_at r.x i +ℤ int_at r.s i *ℤ pos (t - nat_at r.l i)
  pub sources : SourcesPromise p r.d t (position_at r t) r.q r.inputs r'.q r'.inputs
  -- 5. "x becomes x+s×(t−l), l = t, then the new slope and due tick", by the new outputs and inputs. "A due integrator gets x = q."
  pub x : (i : ℕ) → i < p.counts.n → Moves p engine r.d t i → int_at r'.x i ≡ position_at r t i
  pub l : (i : ℕ) → i < p.counts.n → Moves p engine r.d t i → nat_at r'.l i ≡ t
  pub s : (i : ℕ) → i < p.counts.n → Moves p engine r.d t i → int_at r'.s i ≡ rate_of p r'.q r'.inputs i
  pub d : (i : ℕ) → i < p.counts.n → Moves p engine r.d t i → nat_at r'.d i ≡ due_of p r'.q i t (int_at r'.x i) (int_at r'.s i)
  pub due-x : (i : ℕ) → i < p.counts.n → nat_at r.d i ≡ t → int_at r'.x i ≡ int_at r'.q i
  -- who does not move keeps all of these
  pub not_moved : (i : ℕ) → i < p.counts.n → (Moves p engine r.d t i → ⊥)
      → (int_at r'.x i ≡ int_at r.x i) × (nat_at r'.l i ≡ nat_at r.l i) × (int_at r'.s i ≡ int_at r.s i) × (nat_at r'.d i ≡ nat_at r.d i)
  -- 6. "c = t; instants grows by 1; updates grows by the number of integrators moved, each counted once"
  pub clock : r'.clocks.clock ≡ t
  pub next : CommandPromise p t r'.clocks.next
  pub instants : r'.clocks.instants ≡ r.clocks.instants + 1
  pub updates : r'.clocks.updates ≡ r.clocks.updates + count_of (moves p engine r.d t) p.counts.n
  pub moving : (i : ℕ) → (moves p engine r.d t i ≡ true → Moves p engine r.d t i) × (Moves p engine r.d t i → moves p engine r.d t i ≡ true)

abbrev pub StepsMean : Type 0
StepsMean = (p : Plan) (engine : Engine) (r : Running) → PlanRules p → StepPromise p engine (next_tick_of p r) r (instant p engine r)

-- which sources change, and step 4: the tests are the relations in document 01's words
pub record ReachPromise (p : Plan) (d : List ℕ) (t i : ℕ) : Type 0 where
  pub change : (changes p d t i ≡ true → Changed p d t i) × (Changed p d t i → changes p d t i ≡ true)
  pub reach : (reached p (changes p d t) i ≡ true → Reached p (Changed p d t) i) × (Reached p (Changed p d t) i → reached p (changes p d t) i ≡ true)

abbrev pub ReachMeans : Type 0
ReachMeans = (p : Plan) (d : List ℕ) (t i : ℕ) → PlanRules p → ReachPromise p d t i

-- an integrator that an instant does not reach keeps its rate
abbrev pub UnreachedKeepsRate : Type 0
UnreachedKeepsRate =
    (p : Plan) (engine : Engine) (r : Running) (i : ℕ) → PlanRules p → (Reached p (Changed p r.d (next_tick_of p r)) i → ⊥)
    → rate_of p (instant p engine r).q (instant p engine r).inputs i ≡ rate_of p r.q r.inputs i

-- 12 bytes from `at` on read back as an event's tick, source and value
pub record EventAt (bytes : List ℕ) (at t source : ℕ) (value : ℤ) : Type 0 where
  pub tick_is : word bytes at ≡ t
  pub source_is : word bytes (at + 4) ≡ source
  pub value_is : signed_word bytes (at + 8) ≡ value

-- "Events of an instant: due integrators and commanded inputs by ascending source number, 12 bytes each: tick, source, signed value": an
-- event stands behind those of the lower sources that have one, and there are no others
pub record EventsPromise (p : Plan) (d : List ℕ) (t : ℕ) (position : ℕ → ℤ) (bytes : List ℕ) : Type 0 where
  pub due : (i : ℕ) → i < p.counts.n → nat_at d i ≡ t → EventAt bytes (12 * count_of (changes p d t) i) t i (position i)
  pub commanded : (j e : ℕ) → j < p.counts.m → e < p.counts.commands → nat_at p.commands.ticks e ≡ t → nat_at p.commands.inputs e ≡ j
      → EventAt bytes (12 * count_of (changes p d t) (p.counts.n + j)) t (p.counts.n + j) (int_at p.commands.values e)
  pub no_other : length bytes ≡ 12 * count_of (changes p d t) (p.counts.n + p.counts.m)

abbrev pub EventsRead : Type 0
EventsRead =
    (p : Plan) (r : Running) → PlanRules p → status_of p r ≡ Paused
    → EventsPromise p r.d (next_tick_of p r) (position_at r (next_tick_of p r)) (events_of p r)

-- "1 finished if t is never or above the horizon; else 2 range if step 1 bars the instant (with the lowest such integrator); else 0 paused"
pub record StatusPromise (p : Plan) (d : List ℕ) (t : ℕ) (position : ℕ → ℤ) (status integrator : ℕ) : Type 0 where
  pub finished : (t ≡ never) ⊎ (p.horizon < t) → status ≡ 1
  pub range : (t ≡ never → ⊥) → t ≤ p.horizon → (i : ℕ) → i < p.counts.n → nat_at d i ≡ t → M < ∣ position i ∣
      → ((j : ℕ) → j < i → nat_at d j ≡ t → ∣ position j ∣ ≤ M)
      → (status ≡ 2) × (integrator ≡ i)
  pub paused : (t ≡ never → ⊥) → t ≤ p.horizon → ((i : ℕ) → i < p.counts.n → nat_at d i ≡ t → ∣ position i ∣ ≤ M) → status ≡ 0
  pub no_integrator : (status ≡ 2 → ⊥) → integrator ≡ 0

abbrev pub StatusMeans : Type 0
StatusMeans =
    (p : Plan) (r : Running) → StatusPromise p r.d (next_tick_of p r) (position_at r (next_tick_of p r)) (status_number (status_of p r)) (status_integrator (status_of p r))

-- "A run with budget b takes b instants, or fewer if the status is first 1 or 2", from any figures
pub record RunPromise (p : Plan) (engine : Engine) (r : Running) : Type 0 where
  pub none : (after_run p engine 0 r ≡ r) × (events_of_run p engine 0 r ≡ [])
  pub stopped : (b : ℕ) → (status_of p r ≡ Paused → ⊥) → (after_run p engine b r ≡ r) × (events_of_run p engine b r ≡ [])
  pub taken : (b : ℕ) → status_of p r ≡ Paused
      → (after_run p engine (b + 1) r ≡ after_run p engine b (instant p engine r))
      × (events_of_run p engine (b + 1) r ≡ events_of p r ++ events_of_run p engine b (instant p engine r))

abbrev pub RunTakes : Type 0
RunTakes = (p : Plan) (engine : Engine) (r : Running) → RunPromise p engine r

-- ════ The plain machine: "these rules with every integrator moved at each instant and no update count"

-- Start
pub record PlainStartPromise (p : Plan) (plain : Plain) : Type 0 where
  pub x : (i : ℕ) → i < p.counts.n → int_at plain.x i ≡ int_at p.integrators.starts i
  pub q : (i : ℕ) → i < p.counts.n → int_at plain.held.q i ≡ int_at p.integrators.starts i
  pub s : (i : ℕ) → i < p.counts.n → int_at plain.s i ≡ rate_of p plain.held.q plain.held.inputs i
  pub d : (i : ℕ) → i < p.counts.n → nat_at plain.d i ≡ due_of p plain.held.q i 0 (int_at plain.x i) (int_at plain.s i)
  pub inputs : (j : ℕ) → j < p.counts.m → int_at plain.held.inputs j ≡ int_at p.inputs.firsts j
  pub clock : plain.clock ≡ 0
  pub next : CommandPromise p 0 plain.held.next
  pub instants : plain.held.instants ≡ 0

-- one instant, at tick t, from the figures `plain` to the figures `plain'`
pub record PlainStepPromise (p : Plan) (t : ℕ) (plain plain' : Plain) : Type 0 where
  -- where integrator i is at t: it was last moved at the clock
  pub position : (i : ℕ) → plain_position p plain i ≡ int_at plain.x i +ℤ int_at plain.s i *ℤ pos (t - plain.clock)
  pub sources : SourcesPromise p plain.d t (plain_position p plain) plain.held.q plain.held.inputs plain'.held.q plain'.held.inputs
  -- "every integrator moved", with the slope and the due tick by the new outputs and inputs
  pub x : (i : ℕ) → i < p.counts.n → int_at plain'.x i ≡ plain_position p plain i
  pub s : (i : ℕ) → i < p.counts.n → int_at plain'.s i ≡ rate_of p plain'.held.q plain'.held.inputs i
  pub d : (i : ℕ) → i < p.counts.n → nat_at plain'.d i ≡ due_of p plain'.held.q i t (int_at plain'.x i) (int_at plain'.s i)
  pub clock : plain'.clock ≡ t
  pub next : CommandPromise p t plain'.held.next
  pub instants : plain'.held.instants ≡ plain.held.instants + 1

-- what is read from any figures: the next instant's tick, the status, the instant itself and its events
pub record PlainPromise (p : Plan) (plain : Plain) : Type 0 where
  pub tick : NextPromise p plain.d plain.held.next (plain_next_tick p plain)
  pub status : StatusPromise p plain.d (plain_next_tick p plain) (plain_position p plain) (status_number (plain_status p plain)) (status_integrator (plain_status p plain))
  pub step : PlanRules p → PlainStepPromise p (plain_next_tick p plain) plain (plain_instant p plain)
  pub events : PlanRules p → plain_status p plain ≡ Paused → EventsPromise p plain.d (plain_next_tick p plain) (plain_position p plain) (plain_events_of p plain)

abbrev pub PlainStarts : Type 0
PlainStarts = (p : Plan) → PlanRules p → PlainStartPromise p (plain_start p)

abbrev pub PlainMeans : Type 0
PlainMeans = (p : Plan) (plain : Plain) → PlainPromise p plain

-- "From Start it takes B instants, or fewer if its status is first 1 or 2": with b for B, and with one more
pub record PlainRunPromise (p : Plan) (b : ℕ) : Type 0 where
  pub none : (plain_after p 0 ≡ plain_start p) × (plain_events p 0 ≡ [])
  pub taken : plain_status p (plain_after p b) ≡ Paused
      → (plain_after p (b + 1) ≡ plain_instant p (plain_after p b)) × (plain_events p (b + 1) ≡ plain_events p b ++ plain_events_of p (plain_after p b))
  pub stopped : (plain_status p (plain_after p b) ≡ Paused → ⊥)
      → (plain_after p (b + 1) ≡ plain_after p b) × (plain_events p (b + 1) ≡ plain_events p b)
  -- so it takes b, all of them where it is paused then, or fewer where its status is 1 or 2; and before each that it takes it is paused
  pub most : (plain_after p b).held.instants ≤ b
  pub all : plain_status p (plain_after p b) ≡ Paused → (plain_after p b).held.instants ≡ b
  pub fewer : (plain_after p b).held.instants < b → (status_number (plain_status p (plain_after p b)) ≡ 1) ⊎ (status_number (plain_status p (plain_after p b)) ≡ 2)
  pub paused : (i : ℕ) → i < (plain_after p b).held.instants → plain_status p (plain_after p i) ≡ Paused

abbrev pub PlainTakes : Type 0
PlainTakes = (p : Plan) (b : ℕ) → PlainRunPromise p b
