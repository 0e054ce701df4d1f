-- Binding definition: what the call that reads a file and writes it back answers, the reader's refusal, or the writer's, or the length of
-- what is written.
use Rattle.std.specs.Prelude.{◌≡◌, cond, List, ℕ, leb, eqb, length, Result, Ok, Err}
use Rattle.plan.specs.Numbers.{acceptance, refused_write_buffer}
use Rattle.plan.specs.Format.{plan_in}
use Rattle.plan.specs.Refusals.{refusal_number, number_of, finding_of, accepted}
use Rattle.plan.specs.Encoding.{file_length, encode}
use Rattle.plan.specs.declared.Refusal.{Refusal}
use Rattle.calls.specs.Calls.{written_over}

-- 1 to 9 by the reader, then 13: "The plan writer's buffer is shorter than the file."
unfoldable pub rewrite_number : List ℕ → ℕ → ℕ
rewrite_number file room = cond (accepted file) (cond (leb (file_length (plan_in file)) room) acceptance refused_write_buffer) (number_of (finding_of file))

unfoldable pub rewrite_length : List ℕ → ℕ → ℕ
rewrite_length file room = cond (eqb (rewrite_number file room) acceptance) (file_length (plan_in file)) 0

unfoldable pub rewrite_buffer : List ℕ → List ℕ → List ℕ
rewrite_buffer file buffer = cond (eqb (rewrite_number file (length buffer)) acceptance) (written_over (encode (plan_in file)) buffer) buffer

-- the number and the length of what the code answers, the length or the refusal
abbrev pub number_told : Result ℕ Refusal → ℕ
number_told (Ok size) = acceptance
number_told (Err refusal) = refusal_number refusal

abbrev pub length_told : Result ℕ Refusal → ℕ
length_told (Ok size) = size
length_told (Err refusal) = 0

abbrev pub RewriteAnswered : (file buffer : List ℕ) (w : Result ℕ Refusal) (after : List ℕ) → Type 0
RewriteAnswered file buffer w after =
    (number_told w ≡ rewrite_number file (length buffer))
    × ((length_told w ≡ rewrite_length file (length buffer)) × (after ≡ rewrite_buffer file buffer))
