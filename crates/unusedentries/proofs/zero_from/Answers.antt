-- The entries behind the first `count` are compared with 0, one after the other.
use Rattle.std.proofs.Common.{◌∙◌, true, drop}
use Rattle.unusedentries.proofs.Laws.Unused.{folded}
use Rattle.unusedentries.proofs.zero_from.Goals as goal

pub returns : goal.returns
returns g c =
    let n = c.args.count in
    let xs = c.args.values.now in
    let each = folded (λ x. g.T.PartialEq.eq x g.T.Number.ZERO) true (drop n xs) ∙ g.met.T.Number.tests_each n xs in
    (simp c.ZERO.ensures at c.same_from.ensures) ∙ each
