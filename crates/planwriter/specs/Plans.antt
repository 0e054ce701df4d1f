-- Model of the code: what the plan writer answers and leaves in a buffer, the file's length, and the file of the plan and then what was there
-- behind it. Into a buffer that is shorter than the file nothing is written, and there is no answer.
use Rattle.std.specs.Prelude.{cond, List, ◌++◌, ℕ, Option, Some, None, leb, length, drop}
use Rattle.plan.specs.Encoding.{file_length, encode}
use Rattle.plan.specs.declared.Plan.{Plan}

unfoldable pub plan_written : Plan → ℕ → Option ℕ
plan_written p room = cond (leb (file_length p) room) (Some (file_length p)) None

unfoldable pub written_buffer : Plan → List ℕ → List ℕ
written_buffer p buffer = cond (leb (file_length p) (length buffer)) (encode p ++ drop (length (encode p)) buffer) buffer
