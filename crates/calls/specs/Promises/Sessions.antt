-- Promise: demand 3 of the answers that a program has: of what `load` answered for a file that it accepted, of any run calls made from
-- there on, and of position calls behind them, of all of which the contracts hold. A statement; the proof stands in Proofs.
use Rattle.std.specs.Prelude.{◌≡◌, List, ◌∷◌, ◌++◌, ℕ, ◌+◌, ◌*◌, ◌≤◌, ◌<◌, pos}
use Rattle.plan.specs.Lists.{int_at}
use Rattle.plan.specs.Format.{plan_in}
use Rattle.plan.specs.declared.Plan.{Plan}
use Rattle.machine.specs.Plain.{plain_after, plain_events}
use Rattle.machine.specs.Updates.{growth_up_to, eager_instants, lazy_growth}
use Rattle.machine.specs.declared.State.{State}
use Rattle.machine.specs.declared.Engine.TheVariants.{Lazy, Eager}
use Rattle.calls.specs.Calls.{load_of, positioned_of}
use Rattle.calls.specs.Lists.{Call, after_calls, budget_sum, joined_bytes, engine_at, AllBy}
use Rattle.calls.specs.Sessions.{MadeCall, Session, last_state, accepted_sum, written_bytes, calls_of, session_of}
use Rattle.calls.specs.Promises.Lists.{CallPromise, SameAsPlain, EndAlike, ListPromise}
use Rattle.calls.specs.declared.Loaded.{Loaded}
use Rattle.calls.specs.declared.Positioned.{Positioned}

pub record SessionPromise (p : Plan) (st : State) (made : List MadeCall) : Type 0 where
  -- the outcome is that of the plain machine fed the accepted budgets, and updates have grown as its instants say
  pub state : SameAsPlain p (last_state st made) (plain_after p (accepted_sum made))
  pub bytes : written_bytes made ≡ plain_events p (accepted_sum made)
  pub updates : (last_state st made).run.clocks.updates ≡ growth_up_to p (engine_at st (calls_of made)) (plain_after p (accepted_sum made)).held.instants
  -- n times the instants that eager calls took, and over those that lazy calls took the number due or reached
  pub counted : let engine = engine_at st (calls_of made) in let last = (plain_after p (accepted_sum made)).held.instants in
      (last_state st made).run.clocks.updates ≡ p.counts.n * eager_instants engine last + lazy_growth p engine last
  -- "any two lists with an equal sum end alike in all of these"
  pub alike : (others : List MadeCall) → Session st others → accepted_sum others ≡ accepted_sum made
      → EndAlike (last_state st others) (last_state st made) (written_bytes others) (written_bytes made)
  -- "Among lists with an equal sum, none has fewer updates than an all-lazy one or more than an all_eager one."
  pub fewest : (others : List MadeCall) → Session st others → AllBy Lazy (calls_of others) → accepted_sum others ≡ accepted_sum made
      → (last_state st others).run.clocks.updates ≤ (last_state st made).run.clocks.updates
  pub most : (others : List MadeCall) → Session st others → AllBy Eager (calls_of others) → accepted_sum others ≡ accepted_sum made
      → (last_state st made).run.clocks.updates ≤ (last_state st others).run.clocks.updates
  -- each call's own answer and buffer
  pub each : (earlier : List MadeCall) (m : MadeCall) (later : List MadeCall) → made ≡ earlier ++ (m ∷ later)
      → CallPromise p (last_state st earlier) m.call m.answer m.buffer
  -- "the position call for every integrator": what it answers for the last state
  pub position : (i : ℕ) (answer : Positioned) → answer ≡ positioned_of (last_state st made) i → i < p.counts.n
      → (answer.number ≡ 0) × (answer.value ≡ int_at (plain_after p (accepted_sum made)).x i)
  pub no_position : (i : ℕ) (answer : Positioned) → answer ≡ positioned_of (last_state st made) i → p.counts.n ≤ i
      → (answer.number ≡ 14) × (answer.value ≡ pos 0)
  -- last state, sum and bytes are those of the list of these calls, of which demand 3 says the rest: instants inside a call, the same list by one engine
  pub same_state : last_state st made ≡ after_calls st (calls_of made)
  pub same_sum : accepted_sum made ≡ budget_sum st (calls_of made)
  pub same_bytes : written_bytes made ≡ joined_bytes st (calls_of made)
  pub list : ListPromise p st (calls_of made)

abbrev pub EverySession : Type 0
EverySession =
    (file : List ℕ) (loaded : Loaded) → loaded ≡ load_of file → loaded.number ≡ 0 → (made : List MadeCall) → Session loaded.state made
    → SessionPromise (plan_in file) loaded.state made

-- every list of calls is made so: its session, whose calls are the list
pub record SessionOfPromise (st : State) (calls : List Call) : Type 0 where
  pub session : Session st (session_of st calls)
  pub same_calls : calls_of (session_of st calls) ≡ calls

abbrev pub SessionsExist : Type 0
SessionsExist = (st : State) (calls : List Call) → SessionOfPromise st calls
