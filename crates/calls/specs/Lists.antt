-- Binding definition: "Lists of run calls: the state is the loaded one, then what the last call returned, and nothing else writes it." A
-- list is the fold of the run's own answer, which the contracts of the runs cite.
use Rattle.std.specs.Prelude.{◌≡◌, cond, List, [], ◌∷◌, ◌++◌, ℕ, ◌+◌, ◌-◌, leb, eqb, take}
use Rattle.plan.specs.Numbers.{acceptance}
use Rattle.machine.specs.declared.State.{State}
use Rattle.machine.specs.declared.Engine.{Engine}
use Rattle.machine.specs.declared.Engine.TheVariants.{Lazy}
use Rattle.calls.specs.Calls.{run_of, buffer_of_run}
use Rattle.calls.specs.declared.Ran.{Ran}

-- a call of either engine, with a budget of any size and a buffer of any length and content
pub record Call : Type 0 where
  pub engine : Engine
  pub budget : ℕ
  pub buffer : List ℕ

-- what a call answers, and its buffer then
unfoldable pub answer_of : State → Call → Ran
answer_of st call = run_of call.engine st call.budget call.buffer

unfoldable pub buffer_of : State → Call → List ℕ
buffer_of st call = buffer_of_run call.engine st call.budget call.buffer

-- what a call feeds the plain machine: its budget, and "a declined call feeds it nothing"
unfoldable pub accepted_budget : State → Call → ℕ
accepted_budget st call = cond (eqb (answer_of st call).number acceptance) call.budget 0

-- the state after a list of calls
unfoldable pub after_calls : State → List Call → State
after_calls st [] = st
after_calls st (call ∷ later) = after_calls (answer_of st call).state later

-- "the budget sum B, the budgets of a list's accepted run calls added up"
unfoldable pub budget_sum : State → List Call → ℕ
budget_sum st [] = 0
budget_sum st (call ∷ later) = accepted_budget st call + budget_sum (answer_of st call).state later

-- "the bytes that accepted calls answer as written, joined in call order"; a declined call answers 0 bytes
unfoldable pub joined_bytes : State → List Call → List ℕ
joined_bytes st [] = []
joined_bytes st (call ∷ later) = take (answer_of st call).written (buffer_of st call) ++ joined_bytes (answer_of st call).state later

-- "Instant i, counted from 1, belongs to the first accepted call at which the accepted budgets, its own included, add up to i or more": the
-- engine of that call. No instant past the sum is taken; there the answer means nothing.
unfoldable pub engine_at : State → List Call → ℕ → Engine
engine_at st [] i = Lazy
engine_at st (call ∷ later) i = cond (leb i (accepted_budget st call)) call.engine (engine_at (answer_of st call).state later (i - accepted_budget st call))

-- The list up to and with instant i: the call that it belongs to has its budget cut, and is the last.
unfoldable pub cut_at : State → List Call → ℕ → List Call
cut_at st [] i = []
cut_at st (call ∷ later) i =
    cond (leb i (accepted_budget st call)) (record { engine = call.engine; budget = i; buffer = call.buffer } ∷ [])
    (call ∷ cut_at (answer_of st call).state later (i - accepted_budget st call))

-- the list behind instant i: what is left of that call's budget, and the later calls
unfoldable pub rest_at : State → List Call → ℕ → List Call
rest_at st [] i = []
rest_at st (call ∷ later) i =
    cond (leb i (accepted_budget st call)) (record { engine = call.engine; budget = accepted_budget st call - i; buffer = call.buffer } ∷ later)
    (rest_at (answer_of st call).state later (i - accepted_budget st call))

-- every call of a list is made by one engine
abbrev pub AllBy : Engine → List Call → Type 0
AllBy engine [] = Unit {0}
AllBy engine (call ∷ later) = (call.engine ≡ engine) × AllBy engine later

-- the same list with every call made by one engine
unfoldable pub all_by : Engine → List Call → List Call
all_by engine [] = []
all_by engine (call ∷ later) = record { engine = engine; budget = call.budget; buffer = call.buffer } ∷ all_by engine later
