-- Laws: the walk over the due integrators sets the outputs that document 01 asks for, at their source numbers; over any set of integrators
-- each takes its position. Assumes nothing.
use Rattle.std.specs.Prelude.{◌≡◌, Bool, cond, List, ℕ, ◌≤◌, ◌<◌, ℤ, pos, length}
use Rattle.std.proofs.Common.{sym, ◌∙◌, arith, length-set, get_or-set_same, get_or-set_other}
use Rattle.bitset.specs.Mask.{has, mask_of, each}
use Rattle.plan.specs.Lists.{int_at}
use Rattle.plan.specs.Numbers.{source_width}
use Rattle.plan.proofs.Laws.CountLimits.{CountLimits}
use Rattle.plan.specs.declared.Plan.{Plan}
use Rattle.machine.specs.Reach.{is_due, woken, placed}
use Rattle.machine.specs.Instant.{position_at, outputs_by}
use Rattle.machine.proofs.Laws.InstantFigures.{outputs_at}
use Rattle.machine.proofs.Laws.Woken.{woken_is, placed_is}
use Rattle.machine.specs.declared.Running.{Running}
use Rattle.steps.specs.Outputs.{after_output}
use Rattle.steps.proofs.Laws.MaskLoops.{Stores, Visited, visited}

-- ---- one output
abbrev taken : (r : Running) (t i : ℕ) (before : ℤ) → ℤ
taken r t i before = position_at r t i

abbrev Full : List ℤ → Type 0
Full values = length values ≡ source_width

output-stored : (r : Running) (t : ℕ) → Stores (after_output t r.x r.s r.l) int_at (taken r t) Full source_width
unfolding after_output position_at
output-stored r t =
    record {
      kept = λ j values h. simp length-set h;
      own = λ j values h l. get_or-set_same values j _ (pos 0) (omega arith);
      others = λ j i values ne. get_or-set_other values j i _ (pos 0) ne;
    }

-- ---- all of those in a set, by its mask
module _ (p : Plan) (limits : CountLimits p) (r : Running) (t : ℕ) (who : ℕ → Bool) (mask : ℕ) (all : mask ≡ mask_of who p.counts.n) (before : List ℤ)
    (full : Full before) (values : List ℤ) (walk : values ≡ each (after_output t r.x r.s r.l) (has mask) 32 before) where
  all-stored : Visited int_at (taken r t) Full who p.counts.n before values
  all-stored = rw (walk, all) (visited (output-stored r t) who before full p.counts.n 32 limits.n (omega (arith, limits.n)))

  pub values_full : length values ≡ source_width
  values_full = all-stored.full

  -- the sources above the integrators keep their values
  pub values_kept : (i : ℕ) → p.counts.n ≤ i → int_at values i ≡ int_at before i
  values_kept = all-stored.past

  pub values-set : (i : ℕ) → i < p.counts.n → int_at values i ≡ cond (who i) (position_at r t i) (int_at before i)
  values-set = all-stored.at

-- ---- of the due ones: where the values before held the outputs before, those now hold the new ones
pub outputs_are : (p : Plan) (limits : CountLimits p) (r : Running) (t due : ℕ) → due ≡ mask_of (is_due r.d t) p.counts.n
    → (before : List ℤ) → length before ≡ source_width → (values : List ℤ) → values ≡ each (after_output t r.x r.s r.l) (has due) 32 before
    → ((i : ℕ) → i < p.counts.n → int_at before i ≡ int_at r.q i)
    → (i : ℕ) → i < p.counts.n → int_at values i ≡ int_at (outputs_by p (woken (is_due r.d t)) (placed (position_at r t)) r.q) i
outputs_are p limits r t due due-set before full values walk same i h =
    let there = outputs_at p limits (woken (is_due r.d t)) (placed (position_at r t)) r.q i h in
    values-set p limits r t (is_due r.d t) due due-set before full values walk i h
    ∙ rw (same i h) (sym (there ∙ rw (woken_is (is_due r.d t) i, placed_is (position_at r t) i)))
