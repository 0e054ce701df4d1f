-- Model of the code: what a run answers, or what it declines with, as the answer of the call. What the answers are by document 01: Laws/Answers.
use Rattle.std.specs.Prelude.{◌≡◌, List, ℕ, Result, Ok, Err}
use Rattle.plan.specs.Numbers.{acceptance}
use Rattle.plan.specs.Refusals.{refusal_number}
use Rattle.plan.specs.declared.Plan.{Plan}
use Rattle.plan.specs.declared.Refusal.{Refusal}
use Rattle.machine.specs.Status.{status_number, status_integrator}
use Rattle.machine.specs.declared.Running.{Running}
use Rattle.machine.specs.declared.State.{State}
use Rattle.machine.specs.declared.Engine.{Engine}
use Rattle.engine.specs.declared.runs.Ended.{Ended}
use Rattle.calls.specs.Calls.{run_of, buffer_of_run}
use Rattle.calls.specs.declared.Ran.{Ran}

abbrev pub state_by : Plan → Running → State
state_by p r = record { plan = p; run = r }

-- "and else return number, 0 for every other figure, and the state handed in"
abbrev pub ran_with : State → Result Ended Refusal → Ran
ran_with st (Ok ended) =
    record {
      number = acceptance;
      status = status_number ended.status;
      integrator = status_integrator ended.status;
      written = ended.written;
      state = state_by st.plan ended.run;
    }
ran_with st (Err refusal) = record { number = refusal_number refusal; status = 0; integrator = 0; written = 0; state = st }

-- the answer of the call, and the buffer that it leaves
abbrev pub RunAnswered : (engine : Engine) (st : State) (budget : ℕ) (buffer : List ℕ) (w : Result Ended Refusal) (after : List ℕ) → Type 0
RunAnswered engine st budget buffer w after = (ran_with st w ≡ run_of engine st budget buffer) × (after ≡ buffer_of_run engine st budget buffer)
