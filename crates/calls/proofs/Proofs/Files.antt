-- Proof: every file is loaded, or refused by number and entry; the section view; a loaded plan is one that a struct can hold. Assumes
-- nothing.
use Rattle.std.specs.Prelude.{◌≡◌, Bool, cond, List, ℕ}
use Rattle.std.proofs.Math.Path.{refl}
use Rattle.std.proofs.Math.Bool.{true, false}
use Rattle.std.proofs.Common.{arith}
use borrow.Author.Tests.{eq-eqb, ne_eqb}
use Rattle.plan.specs.Format.{PlanWidths, section_in, plan_in, part, offset_in, length_in}
use Rattle.plan.specs.Refusals.{number_of, entry_of, is_clean, finding_of, accepted}
use Rattle.plan.specs.Rules.{PlanRules}
use Rattle.plan.specs.Unused.{PlanUnusedZero}
use Rattle.plan.specs.Encoding.{encode}
use Rattle.plan.specs.Idle.{idle_plan}
use Rattle.plan.specs.declared.Plan.{Plan}
use Rattle.plan.proofs.Laws.Findings.{clean_number}
use Rattle.plan.proofs.Laws.FileRefusals.{answered}
use Rattle.plan.proofs.Laws.Entries.{file_shaped}
use Rattle.plan.proofs.Laws.IdlePlan.{idle-shaped}
use Rattle.plan.proofs.Laws.View.{view-shown, length-shown, view-refused, view-above, start-shown}
use Rattle.plan.proofs.Laws.PlanRoundTrip.{plan_back, clean_back}
use Rattle.plan.proofs.Laws.PlanRefusals.{plan-rules}
use Rattle.machine.specs.Sound.{RunningWidths}
use Rattle.machine.proofs.Laws.Shapes.{start-shaped}
use Rattle.machine.specs.Start.{start_state, idle_state}
use Rattle.machine.specs.declared.State.{State}
use Rattle.calls.specs.Calls.{load_of}
use Rattle.calls.specs.Promises.Files.{EveryFile, EveryView, LoadWidths}

-- the number tells whether the file is accepted
module _ (file : List ℕ) where
  pub load_accepted : (load_of file).number ≡ 0 → accepted file ≡ true
  unfolding load_of accepted
  load_accepted e = rw (clean_number (finding_of file)) (eq-eqb (number_of (finding_of file)) 0 e)

  pub load_refused : ((load_of file).number ≡ 0 → ⊥) → accepted file ≡ false
  unfolding load_of accepted
  load_refused e = rw (clean_number (finding_of file)) (ne_eqb (number_of (finding_of file)) 0 e)

  -- what holds of the start of an accepted file's plan and of the idle state holds of the state that is loaded
  pub load_either : (P : State → Type 0) → (accepted file ≡ true → P (start_state (plan_in file))) → P idle_state → P (load_of file).state
  unfolding load_of
  load_either P start idle = go (accepted file) refl
    where
      go : (b : Bool) → accepted file ≡ b → P (cond b (start_state (plan_in file)) idle_state)
      go true e = start e
      go false e = idle

pub every_file : EveryFile
unfolding load_of
every_file file = record {
  answered = answered file;
  started = λ e. rw (load_accepted file e);
  idle = λ e. rw (load_refused file e);
}

pub every-view : EveryView
unfolding section_in part offset_in length_in
every-view file number = record {
  shown = λ e h. view-shown file number (load_accepted file e) (omega arith);
  whole = λ e h. length-shown file number (load_accepted file e) (omega arith);
  place = λ e h. start-shown file number (load_accepted file e) (omega arith);
  refused = λ e. view-refused file number (load_refused file e);
  above = λ h. view-above file number h;
}

pub load_widths : LoadWidths
unfolding start_state idle_state
load_widths file =
    load_either file (λ st. PlanWidths st.plan × RunningWidths st.run)
    (λ e. (file_shaped file, start-shaped (plan_in file) (file_shaped file))) (idle-shaped, start-shaped idle_plan idle-shaped)

-- the file of a plan that keeps the rules is loaded as the plan's start
pub load_encoded : (p : Plan) → PlanRules p → PlanUnusedZero p → PlanWidths p
    → load_of (encode p) ≡ record { number = 0; entry = 0; state = start_state p }
unfolding load_of accepted is_clean number_of entry_of
load_encoded p rules unused shaped =
    rw (clean_back p rules unused shaped ((plan-rules p).1 rules).1, plan_back p rules unused shaped)
