-- An entry passes by its limits and by its order.
use borrow.Author.Rules.{rules}
use mathlib.Core.Path.{◌≡◌}
use native.Mathlib.Omega.{arith}
use Rattle.plan.specs.Lists.{int_at}
use Rattle.planrules.specs.Checks.{command_limits_at}
use Rattle.entryrules.proofs.Laws.Testing.{element, true_by_answer, false_by_answer}
use Rattle.planrules.proofs.Laws.Findings.{begin, passed, found, none}
use Rattle.planrules.proofs.checks.check_commands.Goals.{After-command_limits_test}
use Rattle.planrules.proofs.checks.check_commands.Goals as goal

pub loop-e-init : goal.loop-e-init
loop-e-init c = begin

-- what the first call has said of the entry
limits : (c : After-command_limits_test) → let a = c.args in
    c.command_limits_test.result ≡ command_limits_at a.horizon a.m a.commands.now.ticks a.commands.now.inputs a.commands.now.values c.loop-e.e
limits c =
    let value = element {z = int_at c.args.commands.now.values c.loop-e.e} (search rules) in
    rw value at c.command_limits_test.ensures

pub returns-then-not-command_limits_test : goal.returns-then-not-command_limits_test
returns-then-not-command_limits_test c =
    let told = limits (goal.at.returns-then-not-command_limits_test c).After-command_limits_test in
    found c.loop-e.invariant (omega arith) (rw (false_by_answer told c.if-not-command_limits_test.true))

pub returns-then-not-command_ascends : goal.returns-then-not-command_ascends
returns-then-not-command_ascends c =
    let told = limits (goal.at.returns-then-not-command_ascends c).After-command_limits_test in
    found c.loop-e.invariant (omega arith)
    (rw (true_by_answer told c.if-not-command_limits_test.false) (false_by_answer c.command_ascends.ensures c.if-not-command_ascends.true))

pub loop-e-preserved : goal.loop-e-preserved
loop-e-preserved c =
    let told = limits (goal.at.loop-e-preserved c).After-command_limits_test in
    passed c.loop-e.invariant (omega arith)
    (rw (true_by_answer told c.if-not-command_limits_test.false) (true_by_answer c.command_ascends.ensures c.if-not-command_ascends.false))

pub returns : goal.returns
returns c = none c.loop-e.invariant c.loop-e-test.false
