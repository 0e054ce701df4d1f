-- The first link whose target is not below i.
use Rattle.std.proofs.Common.{◌≡◌, true, false, leb, rules, tests}
use Rattle.std.proofs.lemmas.Iterator.{first_from_Range}
use Rattle.plan.specs.Lists.{nat_at}
use Rattle.rates.proofs.Laws.Ranges.{found}
use Rattle.rates.proofs.first_link_from.Goals as goal

pub returns : goal.returns
returns c =
    let a = c.args in let targets = a.links.now.targets in
    rw c.unwrap_or.ensures (found (λ e. leb a.i (nat_at targets e)) a.from a.count c.find.result c.requires.0
    (first_from_Range _ _ _ _ (λ e. leb a.i (nat_at targets e) ≡ true) (λ e. leb a.i (nat_at targets e) ≡ false) c.find.ensures.ran
    (λ x q k. search (rules, tests)) (λ x q k. (search rules, search (rules, tests)))))
