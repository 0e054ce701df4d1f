-- An entry passes by its limits and by its order.
use borrow.Author.Rules.{rules}
use mathlib.Core.Path.{◌≡◌}
use native.Mathlib.Omega.{arith}
use Rattle.plan.specs.Lists.{int_at}
use Rattle.planrules.specs.Checks.{link_limits_at}
use Rattle.entryrules.proofs.Laws.Testing.{element, true_by_answer, false_by_answer}
use Rattle.planrules.proofs.Laws.Findings.{begin, passed, found, none}
use Rattle.planrules.proofs.checks.check_links.Goals.{After-link_limits_test}
use Rattle.planrules.proofs.checks.check_links.Goals as goal

pub loop-e-init : goal.loop-e-init
loop-e-init c = begin

-- what the first call has said of the entry
limits : (c : After-link_limits_test) → let a = c.args in
    c.link_limits_test.result ≡ link_limits_at a.n a.all a.links.now.targets a.links.now.sources a.links.now.coefficients c.loop-e.e
limits c =
    let value = element {z = int_at c.args.links.now.coefficients c.loop-e.e} (search rules) in
    rw value at c.link_limits_test.ensures

pub returns-then-not-link_limits_test : goal.returns-then-not-link_limits_test
returns-then-not-link_limits_test c =
    let told = limits (goal.at.returns-then-not-link_limits_test c).After-link_limits_test in
    found c.loop-e.invariant (omega arith) (rw (false_by_answer told c.if-not-link_limits_test.true))

pub returns-then-not-link_ascends : goal.returns-then-not-link_ascends
returns-then-not-link_ascends c =
    let told = limits (goal.at.returns-then-not-link_ascends c).After-link_limits_test in
    found c.loop-e.invariant (omega arith)
    (rw (true_by_answer told c.if-not-link_limits_test.false) (false_by_answer c.link_ascends.ensures c.if-not-link_ascends.true))

pub loop-e-preserved : goal.loop-e-preserved
loop-e-preserved c =
    let told = limits (goal.at.loop-e-preserved c).After-link_limits_test in
    passed c.loop-e.invariant (omega arith)
    (rw (true_by_answer told c.if-not-link_limits_test.false) (true_by_answer c.link_ascends.ensures c.if-not-link_ascends.false))

pub returns : goal.returns
returns c = none c.loop-e.invariant c.loop-e-test.false
