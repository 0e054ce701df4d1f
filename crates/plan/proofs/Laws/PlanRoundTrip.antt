-- Laws: a plan that keeps the rules is what its file is read as, and nothing is found wrong with that file. Assumes nothing.
use Rattle.std.specs.Prelude.{◌≡◌, refl, true, List, ℕ, ◌+◌, ◌*◌, ◌≤◌, ◌<◌, ℤ, negsuc, ◌≤ℤ◌, length, Ok, Err}
use Rattle.std.proofs.Math.Path.{ap}
use Rattle.std.proofs.Common.{◌∙◌, arith}
use Rattle.std.proofs.lemmas.Bool.{false≢true}
use Rattle.std.proofs.Math.IntN.{pos}
use Rattle.std.proofs.Math.ListN.{get_or}
use Rattle.integers.proofs.Laws.Parts.{zs}
use Rattle.words.specs.Word.{unsigned_of, signed_of, word, word_of, flat}
use Rattle.words.proofs.Laws.Signs.{signed_unsigned}
use Rattle.plan.specs.Numbers.{M, sections, entry_sizes, largest_counts}
use Rattle.plan.specs.Lists.{nat_at, int_at}
use Rattle.plan.specs.Format.{column_of, column_in, plan_in, PlanWidths}
use Rattle.plan.specs.Tests.{count_list}
use Rattle.plan.specs.Rules.{Within, PlanRules}
use Rattle.plan.specs.Unused.{PlanUnusedZero}
use Rattle.plan.specs.Encoding.{integrator_words, input_words, node_words, link_words, command_words, encode}
use Rattle.plan.specs.Refusals.{Finding, is_clean, or_else, plan_finding, finding_of}
use Rattle.plan.proofs.Laws.Rows.{row_ext, row_all}
use Rattle.plan.proofs.Laws.Layout.{entry_widths, entry_words, section_words, entry_read}
use Rattle.plan.proofs.Laws.Small.{small_at, signed_size, coefficient-within, node-limits, entry-small}
use Rattle.plan.proofs.Laws.HeaderRoundTrip.{horizon_back, count_back, section_back, long_enough_lem, offsets_back, sizes_back}
use Rattle.plan.specs.declared.Plan.{Plan}

-- ---- signed numbers, and those that are not, are read as they were written
signed_read : (z : ℤ) → Within M z → signed_of 4 (word_of z) ≡ z
signed_read z h = signed_unsigned 4 (omega arith) z (signed_size z h)

unsigned_read : (z : ℤ) → pos 1 ≤ℤ z → pos (word_of z) ≡ z
unfolding unsigned_of
unsigned_read (pos n) h = refl
unsigned_read (negsuc n) h = absurd (omega (arith, zs))

-- what is no finding
clean_only : (f : Finding) → is_clean f ≡ true → f ≡ Ok tt
unfolding is_clean
clean_only (Ok u) e = refl
clean_only (Err r) e = absurd (false≢true e)

module _ (p : Plan) (r : PlanRules p) (u : PlanUnusedZero p) (s : PlanWidths p) where
  -- one column: its words stand for the entries of an array
  column_back : {A : Type 0} (z : A) (decode : ℕ → A) (k c : ℕ) (xs : List A) → k < sections → c < nat_at entry_widths k
      → length xs ≡ nat_at largest_counts k → ((i : ℕ) → nat_at (count_list p) k ≤ i → get_or xs i z ≡ z)
      → ((i : ℕ) → i < nat_at (count_list p) k → decode (get_or (entry_words p k i) c 0) ≡ get_or xs i z)
      → column_in z (λ part at. decode (word part at)) (encode p) k c ≡ xs
  unfolding column_of column_in
  column_back z decode k c xs h g l unused e =
      rw (count_back p r k h, section_back p r k h)
      (row_ext z (nat_at largest_counts k) (nat_at (count_list p) k) _ (λ i. get_or xs i z) entry
      ∙ row_all z (nat_at largest_counts k) (nat_at (count_list p) k) xs l unused)
    where
      entry : (i : ℕ) → i < nat_at (count_list p) k → decode (word (flat (section_words p k)) (nat_at entry_sizes k * i + 4 * c)) ≡ get_or xs i z
      entry i t = ap decode (entry_read p k i c h t g (small_at (entry_words p k i) (entry-small p r k i h t) c)) ∙ e i t

  pub plan_back : plan_in (encode p) ≡ p
  unfolding plan_in count_list entry_words integrator_words input_words node_words link_words command_words
  plan_back =
      rw (
        horizon_back p r,
        count_back p r 0 (omega arith),
        count_back p r 1 (omega arith),
        count_back p r 2 (omega arith),
        count_back p r 3 (omega arith),
        count_back p r 4 (omega arith),
        column_back (pos 0) (signed_of 4) 0 0 p.integrators.starts (omega arith) (omega arith) s.starts u.starts
            (λ i h. signed_read (int_at p.integrators.starts i) (r.integrators i h).start),
        column_back (pos 0) pos 0 1 p.integrators.quanta (omega arith) (omega arith) s.quanta u.quanta
            (λ i h. unsigned_read (int_at p.integrators.quanta i) (r.integrators i h).least),
        column_back (pos 0) (signed_of 4) 1 0 p.inputs.firsts (omega arith) (omega arith) s.firsts u.firsts
            (λ j h. signed_read (int_at p.inputs.firsts j) (r.inputs j h)),
        column_back 0 (λ w. w) 2 0 p.nodes.kinds (omega arith) (omega arith) s.kinds u.kinds (λ i h. refl),
        column_back 0 (λ w. w) 2 1 p.nodes.a (omega arith) (omega arith) s.a u.a (λ i h. refl),
        column_back 0 (λ w. w) 2 2 p.nodes.b (omega arith) (omega arith) s.b u.b (λ i h. refl),
        column_back (pos 0) (signed_of 4) 2 3 p.nodes.lows (omega arith) (omega arith) s.lows u.lows
            (λ j h. signed_read (int_at p.nodes.lows j) (node-limits p j (r.nodes j h)).0),
        column_back (pos 0) (signed_of 4) 2 4 p.nodes.highs (omega arith) (omega arith) s.highs u.highs
            (λ j h. signed_read (int_at p.nodes.highs j) (node-limits p j (r.nodes j h)).1),
        column_back 0 (λ w. w) 3 0 p.links.targets (omega arith) (omega arith) s.targets u.targets (λ i h. refl),
        column_back 0 (λ w. w) 3 1 p.links.sources (omega arith) (omega arith) s.sources u.sources (λ i h. refl),
        column_back (pos 0) (signed_of 4) 3 2 p.links.coefficients (omega arith) (omega arith) s.coefficients u.coefficients
            (λ e h. signed_read (int_at p.links.coefficients e) (coefficient-within (r.links e h).coefficient)),
        column_back 0 (λ w. w) 4 0 p.commands.ticks (omega arith) (omega arith) s.ticks u.ticks (λ i h. refl),
        column_back 0 (λ w. w) 4 1 p.commands.inputs (omega arith) (omega arith) s.inputs u.inputs (λ i h. refl),
        column_back (pos 0) (signed_of 4) 4 2 p.commands.values (omega arith) (omega arith) s.values u.values
            (λ e h. signed_read (int_at p.commands.values e) (r.commands e h).value),
      )

  -- what is found wrong with the file is what is found wrong with the plan
  pub finding_back : finding_of (encode p) ≡ plan_finding p
  unfolding finding_of or_else
  finding_back = rw (long_enough_lem p r, offsets_back p r, sizes_back p r, plan_back)

  pub clean_back : is_clean (plan_finding p) ≡ true → finding_of (encode p) ≡ Ok tt
  clean_back e = finding_back ∙ clean_only (plan_finding p) e
