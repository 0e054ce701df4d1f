-- Laws: unused entries: the tests mean their propositions; the plan that a file holds has zeros there, and arrays of full width. Assumes
-- nothing.
use Rattle.std.specs.Prelude.{◌≡◌, refl, List, ℕ, ◌≤◌, ℤ, pos, eqb, length, get_or}
use Rattle.integers.specs.Parts.{∣◌∣}
use Rattle.plan.specs.Numbers.{largest_counts}
use Rattle.plan.specs.Lists.{nat_at, int_at}
use Rattle.plan.specs.Format.{count_in, column_of, column_in, plan_in, PlanWidths}
use Rattle.plan.specs.Unused.{NatsZeroFrom, IntsZeroFrom, PlanUnusedZero, nats_zero_from, ints_zero_from, plan_unused_zero}
use Rattle.plan.specs.declared.Plan.{Plan}
use Rattle.plan.proofs.Laws.Rows.{row_unused, length_row}
use Rattle.plan.proofs.Laws.Searches.{all_from}
use Rattle.plan.proofs.Laws.TestMeanings.{Means, eqb_means, zero_means, both}

-- ---- the tests
pub unused_nat : (k : ℕ) (xs : List ℕ) → Means (nats_zero_from k xs) (NatsZeroFrom k xs)
unfolding nats_zero_from
unused_nat k xs =
    let all = all_from (λ x. eqb x 0) 0 refl k xs in
    (λ t i h. (eqb_means (nat_at xs i) 0).0 (all.0 t i h), λ u. all.1 (λ i h. (eqb_means (nat_at xs i) 0).1 (u i h)))

pub unused_int : (k : ℕ) (xs : List ℤ) → Means (ints_zero_from k xs) (IntsZeroFrom k xs)
unfolding ints_zero_from
unused_int k xs =
    let all = all_from (λ z. eqb ∣ z ∣ 0) (pos 0) refl k xs in
    (λ t i h. (zero_means (int_at xs i)).0 (all.0 t i h), λ u. all.1 (λ i h. (zero_means (int_at xs i)).1 (u i h)))

infixl 5 ◌and◌
◌and◌ : {P Q : Type 0} → P → Q → P × Q
p and q = (p, q)

pub plan-unused : (p : Plan) → Means (plan_unused_zero p) (PlanUnusedZero p)
unfolding plan_unused_zero
plan-unused p =
    let first = both (both (unused_int _ p.integrators.starts) (unused_int _ p.integrators.quanta)) (unused_int _ p.inputs.firsts) in
    let sides = both (both (both first (unused_nat _ p.nodes.kinds)) (unused_nat _ p.nodes.a)) (unused_nat _ p.nodes.b) in
    let nodes = both (both sides (unused_int _ p.nodes.lows)) (unused_int _ p.nodes.highs) in
    let links = both (both (both nodes (unused_nat _ p.links.targets)) (unused_nat _ p.links.sources)) (unused_int _ p.links.coefficients) in
    let whole = both (both (both links (unused_nat _ p.commands.ticks)) (unused_nat _ p.commands.inputs)) (unused_int _ p.commands.values) in (
      λ t. let c = whole.0 t in let l = c.0.0.0 in let n = l.0.0.0 in let s = n.0.0 in let f = s.0.0.0 in
          record {
            starts = f.0.0;
            quanta = f.0.1;
            firsts = f.1;
            kinds = s.0.0.1;
            a = s.0.1;
            b = s.1;
            lows = n.0.1;
            highs = n.1;
            targets = l.0.0.1;
            sources = l.0.1;
            coefficients = l.1;
            ticks = c.0.0.1;
            inputs = c.0.1;
            values = c.1;
          },
      λ u. whole.1 (u.starts and u.quanta and u.firsts and u.kinds and u.a and u.b and u.lows and u.highs
          and u.targets and u.sources and u.coefficients and u.ticks and u.inputs and u.values),
    )

-- ---- the plan that a file holds
module _ (file : List ℕ) where
  module _ {A : Type 0} (z : A) (read : List ℕ → ℕ → A) where
    column_unused : (k column i : ℕ) → count_in file k ≤ i → get_or (column_in z read file k column) i z ≡ z
    unfolding column_of column_in
    column_unused k column i h = row_unused z (nat_at largest_counts k) (count_in file k) _ i h

    column_length : (k column : ℕ) → length (column_in z read file k column) ≡ nat_at largest_counts k
    unfolding column_of column_in
    column_length k column = length_row z (nat_at largest_counts k) (count_in file k) _

  pub file_unused : PlanUnusedZero (plan_in file)
  unfolding plan_in
  file_unused = record {
    starts = column_unused (pos 0) _ 0 0;
    quanta = column_unused (pos 0) _ 0 1;
    firsts = column_unused (pos 0) _ 1 0;
    kinds = column_unused 0 _ 2 0;
    a = column_unused 0 _ 2 1;
    b = column_unused 0 _ 2 2;
    lows = column_unused (pos 0) _ 2 3;
    highs = column_unused (pos 0) _ 2 4;
    targets = column_unused 0 _ 3 0;
    sources = column_unused 0 _ 3 1;
    coefficients = column_unused (pos 0) _ 3 2;
    ticks = column_unused 0 _ 4 0;
    inputs = column_unused 0 _ 4 1;
    values = column_unused (pos 0) _ 4 2;
  }

  pub file_shaped : PlanWidths (plan_in file)
  unfolding plan_in
  file_shaped = record {
    starts = column_length (pos 0) _ 0 0;
    quanta = column_length (pos 0) _ 0 1;
    firsts = column_length (pos 0) _ 1 0;
    kinds = column_length 0 _ 2 0;
    a = column_length 0 _ 2 1;
    b = column_length 0 _ 2 2;
    lows = column_length (pos 0) _ 2 3;
    highs = column_length (pos 0) _ 2 4;
    targets = column_length 0 _ 3 0;
    sources = column_length 0 _ 3 1;
    coefficients = column_length (pos 0) _ 3 2;
    ticks = column_length 0 _ 4 0;
    inputs = column_length 0 _ 4 1;
    values = column_length (pos 0) _ 4 2;
  }
