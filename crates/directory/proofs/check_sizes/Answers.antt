-- The sections one after the other.
use Rattle.std.proofs.Common.{◌≡◌, ◌∙◌, sym, rules, tests}
use Rattle.plan.specs.Numbers.{sections}
use Rattle.plan.specs.Format.{count_in}
use Rattle.plan.specs.Tests.{sizes_kept}
use Rattle.entryrules.proofs.Laws.Testing.{all_below}
use Rattle.directory.proofs.check_sizes.Goals.{After-all}
use Rattle.directory.proofs.check_sizes.Goals as goal

asked : (c : After-all) → c.all.result ≡ sizes_kept c.args.file.now
unfolding sizes_kept count_in
asked c = all_below _ sections _ _ _ c.all.result c.all.ensures.ran (search rules) (λ x b q k. (search rules, search (rules, tests)))

pub returns-then-all : goal.returns-then-all
returns-then-all c = rw (sym (asked (goal.at.returns-then-all c).After-all) ∙ c.if-all.true) (search rules)

pub returns-else-all : goal.returns-else-all
returns-else-all c = rw (sym (asked (goal.at.returns-else-all c).After-all) ∙ c.if-all.false) (search rules)
