-- What the call says of the entry decides the turn.
use borrow.Author.Rules.{rules}
use mathlib.Core.Path.{◌≡◌}
use native.Mathlib.Omega.{arith}
use Rattle.plan.specs.Lists.{int_at}
use Rattle.planrules.specs.Checks.{node_at}
use Rattle.entryrules.proofs.Laws.Testing.{element, true_by_answer, false_by_answer}
use Rattle.planrules.proofs.Laws.Findings.{begin, passed, found, none}
use Rattle.planrules.proofs.checks.check_nodes.Goals.{After-node_test-kept}
use Rattle.planrules.proofs.checks.check_nodes.Goals as goal

pub loop-j-init : goal.loop-j-init
loop-j-init c = begin

-- what the call has said of the entry
answer : (c : After-node_test-kept) → let a = c.args in
    c.node_test-kept.result ≡ node_at a.base a.nodes.now.kinds a.nodes.now.a a.nodes.now.b a.nodes.now.lows a.nodes.now.highs c.loop-j.j
answer c =
    let low = element {z = int_at c.args.nodes.now.lows c.loop-j.j} (search rules) in
    let high = element {z = int_at c.args.nodes.now.highs c.loop-j.j} (search rules) in
    rw (low, high) at c.node_test-kept.ensures

pub returns-then-not-kept : goal.returns-then-not-kept
returns-then-not-kept c =
    let told = answer (goal.at.returns-then-not-kept c).After-node_test-kept in
    found c.loop-j.invariant (omega arith) (false_by_answer told c.if-not-kept.true)

pub loop-j-preserved : goal.loop-j-preserved
loop-j-preserved c =
    let told = answer (goal.at.loop-j-preserved c).After-node_test-kept in
    passed c.loop-j.invariant (omega arith) (true_by_answer told c.if-not-kept.false)

pub returns : goal.returns
returns c = none c.loop-j.invariant c.loop-j-test.false
