-- The first command above the clock, or the count where there is none.
use Rattle.std.proofs.Common.{◌≡◌, refl, arith, rules, tests}
use Rattle.std.specs.Prelude.{ℕ, List, true, Option, Some, None, MatchOption, unwrap_or, ◌≤◌, ◌<◌}
use Rattle.std.proofs.lemmas.Iterator.{first_from_Range}
use Rattle.plan.specs.Lists.{nat_at}
use Rattle.machine.specs.Entries.{next_entry}
use Rattle.machine.proofs.Laws.Entries.{next_is}
use Rattle.timing.proofs.entries.next_entry.Goals as goal

-- what `find` answers over the numbers below the count
next_found : (ticks : List ℕ) (count clock : ℕ) (r : Option ℕ)
    → MatchOption r ((k : ℕ) → 0 ≤ k → k < count → nat_at ticks k ≤ clock)
    (λ i. (0 ≤ i) × (i < count) × (clock < nat_at ticks i) × ((k : ℕ) → 0 ≤ k → k < i → nat_at ticks k ≤ clock))
    → unwrap_or r count ≡ next_entry ticks (λ e. true) count clock
next_found ticks count clock None none =
    next_is _ _ _ _ count (omega arith) (λ k h n. omega (arith, none k (omega arith) h, n.0)) (λ h. absurd (omega arith))
next_found ticks count clock (Some i) (l, h, later, before) =
    next_is _ _ _ _ i (omega (arith, h)) (λ k h n. omega (arith, before k (omega arith) h, n.0)) (λ _. (later, refl))

pub returns : goal.returns
returns c =
    let a = c.args in let ticks = a.commands.now.ticks in
    rw c.unwrap_or.ensures (next_found ticks a.count a.clock c.find.result
    (first_from_Range _ _ _ _ (λ e. a.clock < nat_at ticks e) (λ e. nat_at ticks e ≤ a.clock) c.find.ensures.ran
    (λ x q k. search (rules, tests)) (λ x q k. (search rules, search (rules, tests)))))
