-- Model of the code: what reading a plan file gives, the plan or the refusal, by the finding of `plan/Refusals` and the plan of `plan/Format`.
use Rattle.std.specs.Prelude.{List, ℕ, Result, Ok, Err}
use Rattle.plan.specs.Format.{plan_in}
use Rattle.plan.specs.Refusals.{Finding, finding_of}
use Rattle.plan.specs.declared.Plan.{Plan}
use Rattle.plan.specs.declared.Refusal.{Refusal}

-- a plan of which this is found
abbrev pub found_of : Finding → Plan → Result Plan Refusal
found_of (Ok u) plan = Ok plan
found_of (Err refusal) plan = Err refusal

unfoldable pub file_plan_of : List ℕ → Result Plan Refusal
file_plan_of file = found_of (finding_of file) (plan_in file)
