-- Laws: a file that is read and written back, its number, length and buffer where the file is refused, where the buffer is short, and where
-- the plan is written.
use Rattle.std.specs.Prelude.{◌≡◌, true, false, List, ℕ, eqb, length, Option, Some, None, Ok, Err}
use Rattle.std.specs.Option.{ok_or}
use Rattle.std.proofs.Math.Path.{sym, refl}
use Rattle.std.proofs.Common.{◌∙◌}
use Rattle.plan.specs.Format.{plan_in}
use Rattle.plan.specs.Refusals.{refusal_number, number_of, is_clean, finding_of, accepted}
use Rattle.plan.specs.declared.Refusal.{Refusal}
use Rattle.plan.specs.declared.Refusal.TheVariants.{WriteBuffer}
use Rattle.plan.proofs.Laws.Findings.{clean_number}
use Rattle.planwriter.specs.Plans.{plan_written, written_buffer}
use Rattle.planwriter.proofs.Laws.Plans.{written-short, written-whole}
use Rattle.cup.specs.Rewriting.{rewrite_number, rewrite_length, rewrite_buffer, RewriteAnswered}

module _ (file buffer : List ℕ) where
  abbrev pub Rewritten : ℕ → ℕ → List ℕ → Type 0
  Rewritten number size after =
      (number ≡ rewrite_number file (length buffer)) × ((size ≡ rewrite_length file (length buffer)) × (after ≡ rewrite_buffer file buffer))

  pub number-refused : accepted file ≡ false → rewrite_number file (length buffer) ≡ number_of (finding_of file)
  unfolding rewrite_number
  number-refused e = rw e

  pub rewrite_refused : accepted file ≡ false → Rewritten (number_of (finding_of file)) 0 buffer
  unfolding rewrite_length rewrite_buffer accepted
  rewrite_refused e =
      let n = number-refused e in
      let none : eqb (number_of (finding_of file)) 0 ≡ false = sym (clean_number (finding_of file)) ∙ e in
      (sym n, (sym (rw (n, none)), sym (rw (n, none))))

  pub rewrite_refused_with : {refusal : Refusal} → finding_of file ≡ Err refusal → RewriteAnswered file buffer (Err refusal) buffer
  unfolding accepted is_clean number_of
  rewrite_refused_with e = rw e at (rewrite_refused (rw e))

  module _ (yes : accepted file ≡ true) {written : Option ℕ} {after : List ℕ} (w : written ≡ plan_written (plan_in file) (length buffer))
      (a : after ≡ written_buffer (plan_in file) buffer) where
    pub rewrite_short : written ≡ None → RewriteAnswered file buffer (Err WriteBuffer) after
    unfolding rewrite_number rewrite_length rewrite_buffer written_buffer refusal_number
    rewrite_short e =
        let short = written-short (plan_in file) (length buffer) (sym w ∙ e) in
        (sym (rw (yes, short)), (sym (rw (yes, short)), a ∙ sym (rw (yes, short))))

    pub rewrite_done : {size : ℕ} → written ≡ Some size → RewriteAnswered file buffer (Ok size) after
    unfolding rewrite_number rewrite_length rewrite_buffer written_buffer
    rewrite_done e =
        let whole = written-whole (plan_in file) (length buffer) (sym w ∙ e) in
        (sym (rw (yes, whole.0)), (whole.1 ∙ sym (rw (yes, whole.0)), a ∙ sym (rw (yes, whole.0))))

    pub rewrite-answered : RewriteAnswered file buffer (ok_or written WriteBuffer) after
    rewrite-answered = go written refl
      where
        go : (o : Option ℕ) → written ≡ o → RewriteAnswered file buffer (ok_or o WriteBuffer) after
        go None e = rewrite_short e
        go (Some size) e = rewrite_done e
