-- Promise: demand 3, "a single claim about the list": for every accepted file and every list of run calls, lazy and eager in any mix,
-- declined ones included, the outcome is that of the plain machine for the sum of the accepted budgets, and the update count is exact. A
-- statement, with document 01's numbers as they are written there; the proof stands in Proofs.
use Rattle.std.specs.Prelude.{◌≡◌, List, ◌∷◌, ◌++◌, ℕ, ◌+◌, ◌-◌, ◌*◌, ◌≤◌, ◌<◌, pos, length, drop}
use Rattle.bitset.specs.Counts.{count_of}
use Rattle.plan.specs.Lists.{int_at}
use Rattle.plan.specs.Format.{plan_in}
use Rattle.plan.specs.declared.Plan.{Plan}
use Rattle.machine.specs.Held.{next_tick}
use Rattle.machine.specs.Instant.{moves, events_of}
use Rattle.machine.specs.Status.{status_number, status_integrator, status_of}
use Rattle.machine.specs.Runs.{room_of}
use Rattle.machine.specs.Plain.{Plain, plain_after, plain_events, plain_status, lazy_count}
use Rattle.machine.specs.Updates.{growth, growth_up_to, eager_instants, lazy_growth, moved_now}
use Rattle.machine.specs.declared.State.{State}
use Rattle.machine.specs.declared.Engine.{Engine}
use Rattle.machine.specs.declared.Engine.TheVariants.{Lazy, Eager}
use Rattle.calls.specs.Calls.{load_of, positioned_of}
use Rattle.calls.specs.Lists.{Call, answer_of, buffer_of, after_calls, budget_sum, joined_bytes, engine_at, cut_at, rest_at, AllBy, all_by}
use Rattle.calls.specs.declared.Ran.{Ran}

-- what a call of a list answers in itself, and the buffer that it leaves
pub record CallPromise (p : Plan) (st : State) (call : Call) (answer : Ran) (buffer : List ℕ) : Type 0 where
  -- "There a call is declined by 11 or 12 only", and by these exactly as they are named; never by 10. `NumberPromise` of Promises/Calls says it with the room in figures
  pub above : 1024 < call.budget → answer.number ≡ 11
  pub short : call.budget ≤ 1024 → length call.buffer < room_of p call.budget → answer.number ≡ 12
  pub accepted : call.budget ≤ 1024 → room_of p call.budget ≤ length call.buffer → answer.number ≡ 0
  -- "Each accepted call answers the status and integrator of the state it returns."
  pub status : answer.number ≡ 0 → answer.status ≡ status_number (status_of p answer.state.run)
  pub integrator : answer.number ≡ 0 → answer.integrator ≡ status_integrator (status_of p answer.state.run)
  -- "bytes written from the buffer's start; later bytes keep their value", and there are as many as before
  pub written : answer.written ≤ length call.buffer
  pub size : length buffer ≡ length call.buffer
  pub later : drop answer.written buffer ≡ drop answer.written call.buffer
  -- a refusal changes nothing that was lent
  pub declined : (answer.number ≡ 0 → ⊥) → (answer.state ≡ st) × (buffer ≡ call.buffer)

-- "Plain machine and engines are compared on everything but l, the stored x and updates"
pub record SameAsPlain (p : Plan) (st : State) (plain : Plain) : Type 0 where
  pub plan : st.plan ≡ p
  pub q : st.run.q ≡ plain.held.q
  pub s : st.run.s ≡ plain.s
  pub d : st.run.d ≡ plain.d
  pub inputs : st.run.inputs ≡ plain.held.inputs
  pub clock : st.run.clocks.clock ≡ plain.clock
  pub next : st.run.clocks.next ≡ plain.held.next
  pub instants : st.run.clocks.instants ≡ plain.held.instants
  -- "that takes in status and its integrator by the rule above, the position call for every integrator"
  pub status : status_of p st.run ≡ plain_status p plain
  pub position : (i : ℕ) → i < p.counts.n → positioned_of st i ≡ record { number = 0; value = int_at plain.x i; state = st }
  pub no_position : (i : ℕ) → p.counts.n ≤ i → positioned_of st i ≡ record { number = 14; value = pos 0; state = st }

-- "any two lists with an equal sum end alike in all of these": the states in which two lists end, and the bytes that they joined, in everything
-- that is compared with the plain machine
pub record EndAlike (one other : State) (bytes-of-one bytes-of-other : List ℕ) : Type 0 where
  pub plan : one.plan ≡ other.plan
  pub bytes : bytes-of-one ≡ bytes-of-other
  pub q : one.run.q ≡ other.run.q
  pub s : one.run.s ≡ other.run.s
  pub d : one.run.d ≡ other.run.d
  pub inputs : one.run.inputs ≡ other.run.inputs
  pub clock : one.run.clocks.clock ≡ other.run.clocks.clock
  pub next : one.run.clocks.next ≡ other.run.clocks.next
  pub instants : one.run.clocks.instants ≡ other.run.clocks.instants
  -- and its integrator
  pub status : status_of one.plan one.run ≡ status_of other.plan other.run
  -- the position call, for every number
  pub position_number_lem : (i : ℕ) → (positioned_of one i).number ≡ (positioned_of other i).number
  pub position : (i : ℕ) → (positioned_of one i).value ≡ (positioned_of other i).value

-- instant i of a list, by the list cut behind it: the state after it is that list's end, and the rest of the list goes on from there
pub record InstantPromise (p : Plan) (st : State) (calls : List Call) (i : ℕ) : Type 0 where
  pub sum : budget_sum st (cut_at st calls i) ≡ i
  pub taken : (after_calls st (cut_at st calls i)).run.clocks.instants ≡ i
  pub resumed : after_calls (after_calls st (cut_at st calls i)) (rest_at st calls i) ≡ after_calls st calls
  -- its bytes are the events of the state before it
  pub bytes : joined_bytes st (cut_at st calls i)
      ≡ joined_bytes st (cut_at st calls (i - 1)) ++ events_of p (after_calls st (cut_at st calls (i - 1))).run
  -- "this is the number of integrators with l = c after it"
  pub moved : moved_now p (after_calls st (cut_at st calls i)).run ≡ growth p (engine_at st calls i) (plain_after p (i - 1))
  pub grown : (after_calls st (cut_at st calls i)).run.clocks.updates ≡ growth_up_to p (engine_at st calls) i

-- what the accepted budgets of a list add up to, and the call that an instant belongs to
pub record FoldPromise (st : State) (call : Call) (calls : List Call) : Type 0 where
  -- "the budgets of a list's accepted run calls added up; a declined call feeds it nothing"
  pub accepted_sum_lem : (answer_of st call).number ≡ 0 → budget_sum st (call ∷ calls) ≡ call.budget + budget_sum (answer_of st call).state calls
  pub declined-sum : ((answer_of st call).number ≡ 0 → ⊥) → budget_sum st (call ∷ calls) ≡ budget_sum (answer_of st call).state calls
  -- "Instant i .. belongs to the first accepted call at which the accepted budgets, its own included, add up to i or more"
  pub own : (i : ℕ) → (answer_of st call).number ≡ 0 → 1 ≤ i → i ≤ call.budget → engine_at st (call ∷ calls) i ≡ call.engine
  pub later : (i : ℕ) → (answer_of st call).number ≡ 0 → call.budget < i
      → engine_at st (call ∷ calls) i ≡ engine_at (answer_of st call).state calls (i - call.budget)
  pub declined : (i : ℕ) → ((answer_of st call).number ≡ 0 → ⊥) → 1 ≤ i → engine_at st (call ∷ calls) i ≡ engine_at (answer_of st call).state calls i

abbrev pub ListsMean : Type 0
ListsMean = (st : State) (call : Call) (calls : List Call) → FoldPromise st call calls

-- by how much updates grow: "by n if that call is eager, else by the number that step 5 moves for the lazy engine, with the plain machine's due
-- ticks"; over the instants 1 to `last`, n times those that eager calls took, and the number due or reached over those that lazy calls took
pub record GrowthPromise (p : Plan) (engine : ℕ → Engine) (last : ℕ) (plain : Plain) : Type 0 where
  pub lazy : growth p Lazy plain ≡ count_of (moves p Lazy plain.d (next_tick p plain.d plain.held)) p.counts.n
  pub due_or_reached : lazy_count p plain ≡ count_of (moves p Lazy plain.d (next_tick p plain.d plain.held)) p.counts.n
  pub parts : growth_up_to p engine last ≡ p.counts.n * eager_instants engine last + lazy_growth p engine last
  -- an instant that an eager call took counts in the first part alone, one that a lazy call took in the second alone
  pub none : (eager_instants engine 0 ≡ 0) × (lazy_growth p engine 0 ≡ 0)
  pub by_eager : engine (last + 1) ≡ Eager
      → (eager_instants engine (last + 1) ≡ eager_instants engine last + 1) × (lazy_growth p engine (last + 1) ≡ lazy_growth p engine last)
  pub by_lazy : engine (last + 1) ≡ Lazy
      → (eager_instants engine (last + 1) ≡ eager_instants engine last) × (lazy_growth p engine (last + 1) ≡ lazy_growth p engine last + lazy_count p (plain_after p last))

abbrev pub GrowthMeans : Type 0
GrowthMeans = (p : Plan) (engine : ℕ → Engine) (last : ℕ) (plain : Plain) → GrowthPromise p engine last plain

-- the claim about a list, from the loaded state
pub record ListPromise (p : Plan) (st : State) (calls : List Call) : Type 0 where
  pub each : (earlier : List Call) (call : Call) (later : List Call) → calls ≡ earlier ++ (call ∷ later)
      → CallPromise p (after_calls st earlier) call (answer_of (after_calls st earlier) call) (buffer_of (after_calls st earlier) call)
  pub state : SameAsPlain p (after_calls st calls) (plain_after p (budget_sum st calls))
  -- "and the bytes that accepted calls answer as written, joined in call order"
  pub bytes : joined_bytes st calls ≡ plain_events p (budget_sum st calls)
  pub instants : (i : ℕ) → 1 ≤ i → i ≤ (plain_after p (budget_sum st calls)).held.instants → InstantPromise p st calls i
  pub updates : (after_calls st calls).run.clocks.updates ≡ growth_up_to p (engine_at st calls) (plain_after p (budget_sum st calls)).held.instants
  -- n times the instants that eager calls took, and over those that lazy calls took the number due or reached
  pub counted : let last = (plain_after p (budget_sum st calls)).held.instants in
      (after_calls st calls).run.clocks.updates ≡ p.counts.n * eager_instants (engine_at st calls) last + lazy_growth p (engine_at st calls) last
  -- "any two lists with an equal sum end alike in all of these"
  pub alike : (others : List Call) → budget_sum st others ≡ budget_sum st calls
      → EndAlike (after_calls st others) (after_calls st calls) (joined_bytes st others) (joined_bytes st calls)
  -- "Among lists with an equal sum, none has fewer updates than an all-lazy one or more than an all_eager one."
  pub fewest : (others : List Call) → AllBy Lazy others → budget_sum st others ≡ budget_sum st calls
      → (after_calls st others).run.clocks.updates ≤ (after_calls st calls).run.clocks.updates
  pub most : (others : List Call) → AllBy Eager others → budget_sum st others ≡ budget_sum st calls
      → (after_calls st calls).run.clocks.updates ≤ (after_calls st others).run.clocks.updates
  -- such lists there are: this one, made all lazy or all eager
  pub one-engine : (engine : Engine) → AllBy engine (all_by engine calls)
  pub same_sum : (engine : Engine) → budget_sum st (all_by engine calls) ≡ budget_sum st calls
  pub all-lazy : (after_calls st (all_by Lazy calls)).run.clocks.updates ≡ growth_up_to p (λ i. Lazy) (plain_after p (budget_sum st calls)).held.instants
  pub all_eager : (after_calls st (all_by Eager calls)).run.clocks.updates ≡ p.counts.n * (plain_after p (budget_sum st calls)).held.instants

abbrev pub Demand3 : Type 0
Demand3 = (file : List ℕ) → (load_of file).number ≡ 0 → (calls : List Call) → ListPromise (plan_in file) (load_of file).state calls
