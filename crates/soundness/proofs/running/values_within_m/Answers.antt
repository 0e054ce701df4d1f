-- The entries one after the other.
use Rattle.std.proofs.Common.{rules, tests}
use Rattle.integers.specs.Range.{within}
use Rattle.plan.specs.Numbers.{M}
use Rattle.plan.specs.Lists.{int_at}
use Rattle.entryrules.proofs.Laws.Testing.{all_below}
use Rattle.soundness.proofs.running.values_within_m.Goals as goal

pub returns : goal.returns
returns c =
    let values = c.args.values.now in
    all_below (λ i. within M (int_at values i)) c.args.count _ _ _ c.all.result c.all.ensures.ran (search rules) (λ x b q k. (search rules, search (rules, tests)))
