-- The same as a proposition: a list of run calls as a program makes it, what each call was handed, what it answered, and what its buffer
-- then held. Where the contracts of `run_lazy` and `run_eager` hold of these, and the states go from call to call, they are the list of
-- Lists.antt, as Proofs/Sessions shows.
use Rattle.std.specs.Prelude.{◌≡◌, cond, List, [], ◌∷◌, ◌++◌, ℕ, ◌+◌, eqb, take}
use Rattle.plan.specs.Numbers.{acceptance}
use Rattle.machine.specs.declared.State.{State}
use Rattle.calls.specs.Calls.{run_of, buffer_of_run}
use Rattle.calls.specs.Lists.{Call, answer_of, buffer_of}
use Rattle.calls.specs.declared.Ran.{Ran}

pub record MadeCall : Type 0 where
  -- engine, budget, and the buffer as it was lent
  pub call : Call
  pub answer : Ran
  -- the buffer afterwards
  pub buffer : List ℕ

-- the contract of the call's run, of the state st that it was handed
pub record ContractHolds (st : State) (made : MadeCall) : Type 0 where
  pub answer : made.answer ≡ run_of made.call.engine st made.call.budget made.call.buffer
  pub buffer : made.buffer ≡ buffer_of_run made.call.engine st made.call.budget made.call.buffer

-- "the state is the loaded one, then what the last call returned, and nothing else writes it"
abbrev pub Session : State → List MadeCall → Type 0
Session st [] = Unit {0}
Session st (made ∷ later) = ContractHolds st made × Session made.answer.state later

-- the state that the last call returned
unfoldable pub last_state : State → List MadeCall → State
last_state st [] = st
last_state st (made ∷ later) = last_state made.answer.state later

-- "the budgets of a list's accepted run calls added up"
unfoldable pub accepted_sum : List MadeCall → ℕ
accepted_sum [] = 0
accepted_sum (made ∷ later) = cond (eqb made.answer.number acceptance) made.call.budget 0 + accepted_sum later

-- "the bytes that accepted calls answer as written, joined in call order"
unfoldable pub written_bytes : List MadeCall → List ℕ
written_bytes [] = []
written_bytes (made ∷ later) = take made.answer.written made.buffer ++ written_bytes later

-- what was handed in
unfoldable pub calls_of : List MadeCall → List Call
calls_of [] = []
calls_of (made ∷ later) = made.call ∷ calls_of later

-- the session of a list of calls: what each answers and leaves in its buffer, of the state that the call before it returned
unfoldable pub session_of : State → List Call → List MadeCall
session_of st [] = []
session_of st (call ∷ later) = record { call = call; answer = answer_of st call; buffer = buffer_of st call } ∷ session_of (answer_of st call).state later
