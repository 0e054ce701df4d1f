-- Laws: the refusals 1 to 9 of a file: what the number and the entry mean, and the rules that an accepted file keeps. Assumes nothing.
use Rattle.std.specs.Prelude.{◌≡◌, Bool, List, eqb, Ok}
use Rattle.std.proofs.Math.Path.{refl}
use Rattle.std.proofs.Math.Bool.{true, false}
use Prim.Native.Nat.{ℕ, zero, suc, ◌≤◌, ◌<◌}
use native.Mathlib.Omega.{arith}
use Rattle.std.proofs.Math.Dec.{leb, ltb}
use Rattle.std.proofs.Math.ListN.{get_or-eq_default}
use borrow.Author.Tests.{leb-true, ltb-true, ltb-false, eqb-true, eqb-false}
use Rattle.plan.specs.Numbers.{sections, largest_counts}
use Rattle.plan.specs.Lists.{nat_at, table, every}
use Rattle.plan.specs.Format.{count_in, plan_in}
use Rattle.plan.specs.Tests.{long_enough, offsets_kept, sizes_kept, count_list}
use Rattle.plan.specs.Refusals.{refusal_number, refusal_entry, Finding, number_of, entry_of, or_else}
use Rattle.plan.specs.Refusals.{commands_finding, plan_finding, finding_of, accepted}
use Rattle.plan.specs.Rules.{CountsRule, OffsetRule, SizeRule, PlanRules, rule_entries, Rule, Holds, Answered}
use Rattle.plan.specs.declared.Plan.{Plan}
use Rattle.plan.specs.declared.Refusal.TheVariants.{Short, Offsets, Sizes}
use Rattle.plan.proofs.Laws.Rows.{table_at}
use Rattle.plan.proofs.Laws.Searches.{every_true}
use Rattle.plan.proofs.Laws.FileTests.{long_kept, offsets_kept_lem, sizes_kept_lem}
use Rattle.plan.proofs.Laws.Findings.{Judged, clean, faulty, judged_one, clean_number, first_clean, first_faulty, none-next}
use Rattle.plan.proofs.Laws.PlanRefusals.{horizon_judged, integrators_judged, inputs_judged, nodes_judged, links_judged, commands_judged}

module _ (file : List ℕ) where
  -- what the rules from number `least` on find, in the terms of Answered
  record Tried (least : ℕ) (f : Finding) : Type 0 where
    known : number_of f ≤ 9
    accepts : number_of f ≡ 0 → ((k : ℕ) → least ≤ k → Holds file k) × (entry_of f ≡ 0)
    earlier : (k : ℕ) → least ≤ k → k < number_of f → Holds file k
    there : 0 < number_of f → entry_of f < nat_at (rule_entries file) (number_of f)
    lowest : (e : ℕ) → e < entry_of f → Rule file (number_of f) e
    broken : 0 < number_of f → Rule file (number_of f) (entry_of f) → ⊥

  -- no rule has a number above 9
  tried_none : Tried 10 (Ok tt)
  unfolding number_of entry_of
  tried_none = record {
    known = omega arith;
    accepts = λ z. (λ k h e l. absurd (omega (arith, get_or-eq_default (rule_entries file) 0 h)), refl);
    earlier = λ k h l. absurd (omega arith);
    there = λ h. absurd (omega arith);
    lowest = λ e h. absurd (omega arith);
    broken = λ h. absurd (omega arith);
  }

  -- what holds of rule k and of those above it
  above : (k : ℕ) (P : ℕ → Type 0) → P k → ((j : ℕ) → suc k ≤ j → P j) → (j : ℕ) → k ≤ j → P j
  above k P here rest j h = go (eqb j k) refl
    where
      go : (b : Bool) → eqb j k ≡ b → P j
      go true e = rw (eqb-true j k e) here
      go false e = rest j (omega (arith, eqb-false j k e))

  -- the rule of number k is tried, and then those above it
  tried_next : (k : ℕ) {f g : Finding} → (0 < k) × (k ≤ 9) → Judged (Rule file k) k 0 (nat_at (rule_entries file) k) f → Tried (suc k) g
      → Tried k (or_else f g)
  tried_next k {f} {g} a (clean n z r) t = rw (first_clean f g n) (record {
    known = t.known;
    accepts = λ q. (above k (Holds file) holds (t.accepts q).0, (t.accepts q).1);
    earlier = above k (λ j. j < number_of g → Holds file j) (λ l. holds) t.earlier;
    there = t.there;
    lowest = t.lowest;
    broken = t.broken;
  })
    where
      holds : Holds file k
      holds e h = r e (omega arith) h
  tried_next k {f} {g} a (faulty n c d r x) t = rw (first_faulty f g k a.0 n) (record {
    known = omega arith;
    accepts = λ q. absurd (omega arith);
    earlier = λ j h l. absurd (omega arith);
    there = λ h. rw n d;
    lowest = λ e h. rw n (r e (omega arith) h);
    broken = λ h. rw n x;
  })

  tried_all : Tried 1 (finding_of file)
  unfolding finding_of plan_finding refusal_number refusal_entry
  tried_all =
      tried_next 1 (omega arith) (judged_one 1 (omega arith) 0 (long_enough file) Short (long_kept file) refl refl)
      (tried_next 2 (omega arith) (judged_one 2 (omega arith) 0 (offsets_kept file) Offsets (offsets_kept_lem file) refl refl)
      (tried_next 3 (omega arith) (judged_one 3 (omega arith) 0 (sizes_kept file) Sizes (sizes_kept_lem file) refl refl)
      (tried_next 4 (omega arith) (horizon_judged p)
      (tried_next 5 (omega arith) (integrators_judged p)
      (tried_next 6 (omega arith) (inputs_judged p)
      (tried_next 7 (omega arith) (nodes_judged p)
      (tried_next 8 (omega arith) (links_judged p)
      (rw (none-next (commands_finding p)) at (tried_next 9 (omega arith) (commands_judged p) tried_none)))))))))
    where
      p : Plan
      p = plan_in file

  pub answered : Answered file (number_of (finding_of file)) (entry_of (finding_of file))
  answered = let t = tried_all in record {
    known = t.known;
    accepts = λ q. (λ k. above 0 (Holds file) none (t.accepts q).0 k (omega arith), (t.accepts q).1);
    earlier = λ k. above 0 (λ j. j < number_of (finding_of file) → Holds file j) (λ l. none) t.earlier k (omega arith);
    there = t.there;
    lowest = t.lowest;
    broken = t.broken;
  }
    where
      none : Holds file 0
      none e h = absurd (omega arith)

  -- ---- the counts
  -- those of the plan are those of the file
  pub counts_at : (k : ℕ) → k < sections → nat_at (count_list (plan_in file)) k ≡ count_in file k
  unfolding count_list plan_in table
  counts_at k h = table_at sections (count_in file) k 0 h

  pub counts_in : SizeRule file → CountsRule (plan_in file)
  counts_in r k h = rw (counts_at k h) (r.count k h)

  counts-below : SizeRule file → (k : ℕ) → nat_at (count_list (plan_in file)) k ≤ 256
  unfolding every count_list
  counts-below r k = go (ltb k sections) refl
    where
      go : (b : Bool) → ltb k sections ≡ b → nat_at (count_list (plan_in file)) k ≤ 256
      go true e =
          let h = ltb-true k sections e in let l = (every_true (λ j. leb (nat_at largest_counts j) 256) sections).0 refl k h in
          omega (arith, (counts_in r k h).1, leb-true (nat_at largest_counts k) 256 l)
      go false e = omega (arith, get_or-eq_default (count_list (plan_in file)) 0 (ltb-false k sections e))

  entries_below : (k : ℕ) → (3 < k → SizeRule file) → nat_at (rule_entries file) k ≤ 256
  unfolding count_list
  entries_below zero r = omega arith
  entries_below (suc zero) r = omega arith
  entries_below (suc (suc zero)) r = omega arith
  entries_below (suc (suc (suc zero))) r = omega arith
  entries_below (suc (suc (suc (suc zero)))) r = omega arith
  entries_below (suc (suc (suc (suc (suc j))))) r = counts-below (r (omega arith)) j

  -- number and entry are small: each fits a byte
  pub number-below : number_of (finding_of file) ≤ 9
  number-below = answered.known

  pub entry-below : entry_of (finding_of file) ≤ 255
  entry-below = go (eqb number 0) refl
    where
      number : ℕ
      number = number_of (finding_of file)

      go : (b : Bool) → eqb number 0 ≡ b → entry_of (finding_of file) ≤ 255
      go true e = omega (arith, (answered.accepts (eqb-true number 0 e)).1)
      go false e =
          omega (
            arith,
            eqb-false number 0 e,
            answered.there (omega (arith, eqb-false number 0 e)),
            entries_below number (λ h. answered.earlier 3 h 0 (omega arith)),
          )

  -- an accepted file keeps every rule
  module _ (yes : accepted file ≡ true) where
    holds : (k : ℕ) → Holds file k
    unfolding accepted
    holds = (answered.accepts (eqb-true (number_of (finding_of file)) 0 (rw (clean_number (finding_of file)) at yes))).0

    pub accepted-offsets : OffsetRule file
    accepted-offsets = holds 2 0 (omega arith)

    pub accepted-sizes : SizeRule file
    accepted-sizes = holds 3 0 (omega arith)

    pub accepted-rules : PlanRules (plan_in file)
    accepted-rules = record {
      counts = counts_in accepted-sizes;
      horizon = holds 4 0 (omega arith);
      integrators = holds 5;
      inputs = holds 6;
      nodes = holds 7;
      links = holds 8;
      commands = holds 9;
    }
