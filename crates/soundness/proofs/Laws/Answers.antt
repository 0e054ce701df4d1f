-- Laws: what is answered where a test fails, and where all have passed. Assumes nothing.
use Rattle.std.specs.Prelude.{◌≡◌, refl, Bool, true, false, cond, ◌&&◌, Option, Some, None, is_some}
use Rattle.std.proofs.Math.Path.{ap}
use Rattle.std.proofs.Common.{sym, ◌∙◌}
use Rattle.std.proofs.lemmas.Option.{cond_some}
use Rattle.std.proofs.Math.Bool.{and-eq-true_iff}
use Rattle.plan.specs.Rules.{PlanRules}
use Rattle.plan.specs.Tests.{counts_kept}
use Rattle.plan.specs.Refusals.{is_clean, plan_finding}
use Rattle.plan.specs.Unused.{plan_unused_zero}
use Rattle.plan.proofs.Laws.PlanRefusals.{plan-rules}
use Rattle.plan.specs.declared.Plan.{Plan}
use Rattle.machine.specs.Held.{held_of}
use Rattle.machine.specs.SoundTest.{plan_sound, running_sound, is_sound}
use Rattle.machine.specs.declared.Running.{Running}
use Rattle.machine.specs.declared.State.{State}
use Rattle.tables.specs.Columns.{plan_tables}
use Rattle.tables.specs.declared.Tables.{Tables}
use Rattle.soundness.specs.Testing.{sound_with, tested_of, running_tested_of}
use Rattle.soundness.specs.declared.Tested.{Tested}

-- a plan that is sound keeps its rules
pub sound-rules : (p : Plan) → plan_sound p ≡ true → PlanRules p
unfolding plan_sound
sound-rules p e =
    let kept = ((and-eq-true_iff (counts_kept p && is_clean (plan_finding p)) (plan_unused_zero p)).0 e).0 in
    (plan-rules p).0 ((and-eq-true_iff (counts_kept p) (is_clean (plan_finding p))).0 kept)

-- tables as they are handed on
abbrev handed_on : Tables → Tested
handed_on t = record { ranges = t.ranges; values = t.values }

module _ (p : Plan) (r : Running) where
  -- ---- of the running figures
  pub figures-unsound : false ≡ running_sound p r → None ≡ running_tested_of p r
  unfolding running_tested_of
  figures-unsound e = rw (← e)

  pub figures_sound_lem : {t : Tables} → running_sound p r ≡ true → t ≡ plan_tables p (held_of r) → Some (handed_on t) ≡ running_tested_of p r
  unfolding running_tested_of
  figures_sound_lem e tables = rw e (ap (λ (u : Tables). Some (handed_on u)) tables)

  -- ---- of the state
  pub plan-unsound : plan_sound p ≡ false → None ≡ tested_of (record { plan = p; run = r })
  unfolding tested_of is_sound
  plan-unsound e = rw e

  pub plan_passed : {t : Option Tested} → plan_sound p ≡ true → t ≡ running_tested_of p r → t ≡ tested_of (record { plan = p; run = r })
  unfolding tested_of is_sound running_tested_of
  plan_passed e answer = rw e answer

-- ---- what a caller reads of the answer
module _ (st : State) where
  told : (b : Bool) → is_some (cond b (Some (sound_with st.plan st.run)) None) ≡ b
  told true = refl
  told false = refl

  -- it is there just of a sound state
  pub sound_told : {t : Option Tested} → t ≡ tested_of st → is_some t ≡ is_sound st
  unfolding tested_of
  sound_told answer = ap (is_some {T = Tested}) answer ∙ told (is_sound st)

  pub told_sound : {t : Option Tested} → t ≡ tested_of st → is_sound st ≡ true → t ≡ Some (sound_with st.plan st.run)
  unfolding tested_of
  told_sound answer e = rw e at answer

  pub told_unsound : {t : Option Tested} → t ≡ tested_of st → is_sound st ≡ false → t ≡ None
  unfolding tested_of
  told_unsound answer e = rw e at answer

  -- by its case
  pub some_told : {t : Tested} → Some t ≡ tested_of st → (is_sound st ≡ true) × (t ≡ sound_with st.plan st.run)
  unfolding tested_of
  some_told {t} answer = let c = cond_some (is_sound st) (sound_with st.plan st.run) t (sym answer) in (c.0, sym c.1)

  pub none_told : None ≡ tested_of st → is_sound st ≡ false
  none_told answer = sym (sound_told answer)
