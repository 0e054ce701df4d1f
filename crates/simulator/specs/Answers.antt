-- Model of the code: what a call answers, or what it declines with, beside the state that it was handed. What the answers are by document 01:
-- Laws/Answers.
use Rattle.std.specs.Prelude.{◌≡◌, List, ℕ, ℤ, pos, Result, Ok, Err}
use Rattle.plan.specs.Numbers.{acceptance}
use Rattle.plan.specs.Refusals.{refusal_number}
use Rattle.plan.specs.declared.Refusal.{Refusal}
use Rattle.machine.specs.declared.State.{State}
use Rattle.calls.specs.Calls.{write_of, buffer_of_write, positioned_of}
use Rattle.calls.specs.declared.Written.{Written}
use Rattle.calls.specs.declared.Positioned.{Positioned}

-- ---- plan writer
abbrev pub written_with : State → Result ℕ Refusal → Written
written_with st (Ok size) = record { number = acceptance; length = size; state = st }
written_with st (Err refusal) = record { number = refusal_number refusal; length = 0; state = st }

abbrev pub WriteAnswered : (st : State) (buffer : List ℕ) (w : Result ℕ Refusal) (after : List ℕ) → Type 0
WriteAnswered st buffer w after = (written_with st w ≡ write_of st buffer) × (after ≡ buffer_of_write st buffer)

-- ---- position call
abbrev pub positioned_with : State → Result ℤ Refusal → Positioned
positioned_with st (Ok value) = record { number = acceptance; value = value; state = st }
positioned_with st (Err refusal) = record { number = refusal_number refusal; value = pos 0; state = st }

abbrev pub PositionAnswered : (st : State) (i : ℕ) (w : Result ℤ Refusal) → Type 0
PositionAnswered st i w = positioned_with st w ≡ positioned_of st i
