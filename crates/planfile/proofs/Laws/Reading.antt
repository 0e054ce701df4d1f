-- Laws: what the finding and a reading of a file say of it, refused or accepted.
use Rattle.std.specs.Prelude.{◌≡◌, refl, true, false, List, ℕ, Result, Ok, Err}
use Rattle.std.proofs.Common.{sym, ◌∙◌}
use Rattle.plan.specs.Format.{plan_in}
use Rattle.plan.specs.Refusals.{Finding, is_clean, finding_of, accepted}
use Rattle.plan.specs.declared.Plan.{Plan}
use Rattle.plan.specs.declared.Refusal.{Refusal}
use Rattle.directory.proofs.Laws.Directory.{directory_kept, finding_directory}
use Rattle.planfile.specs.Reading.{found_of, file_plan_of}

module _ (file : List ℕ) {finding : Finding} (e : finding ≡ finding_of file) where
  pub reading_refused : {refusal : Refusal} → finding ≡ Err refusal → Err refusal ≡ file_plan_of file
  unfolding file_plan_of
  reading_refused c = rw (← e, c)

  pub reading_accepted : {plan : Plan} → finding ≡ Ok tt → plan ≡ plan_in file → Ok plan ≡ file_plan_of file
  unfolding file_plan_of
  reading_accepted c p = rw (← e, c, p)

  pub finding_accepts : finding ≡ Ok tt → accepted file ≡ true
  unfolding accepted is_clean
  finding_accepts c = rw (← e, c)

  pub finding_refuses : is_clean finding ≡ false → accepted file ≡ false
  unfolding accepted
  finding_refuses c = rw (← e, c)

  pub refusal_refuses : {refusal : Refusal} → finding ≡ Err refusal → accepted file ≡ false
  unfolding is_clean
  refusal_refuses c = finding_refuses (rw c)

-- a plan that is handed back is one of which nothing is found, and a refusal is what is found
found-plan : (f : Finding) (p q : Plan) → found_of f p ≡ Ok q → (f ≡ Ok tt) × (q ≡ p)
found-plan (Ok u) p q e = (refl, cc)
found-plan (Err r) p q e = absurd (cc)

found-refusal : (f : Finding) (p : Plan) (r : Refusal) → found_of f p ≡ Err r → f ≡ Err r
found-refusal (Ok u) p r e = absurd (cc)
found-refusal (Err r) p s e = cc

-- what a reading of a file says of it
module _ (file : List ℕ) {reading : Result Plan Refusal} (e : reading ≡ file_plan_of file) where
  module _ {plan : Plan} (is : reading ≡ Ok plan) where
    pub reading_clean : finding_of file ≡ Ok tt
    unfolding file_plan_of
    reading_clean = (found-plan _ _ _ (sym e ∙ is)).0

    pub reading_plan : plan ≡ plan_in file
    unfolding file_plan_of
    reading_plan = (found-plan _ _ _ (sym e ∙ is)).1

    pub reading_accepts : accepted file ≡ true
    reading_accepts = finding_accepts file refl reading_clean

  module _ {refusal : Refusal} (is : reading ≡ Err refusal) where
    pub reading_finding : finding_of file ≡ Err refusal
    unfolding file_plan_of
    reading_finding = found-refusal _ _ _ (sym e ∙ is)

    pub reading_refuses : accepted file ≡ false
    reading_refuses = refusal_refuses file refl reading_finding

pub ruleset reading = (finding_directory, directory_kept)
