-- What the call says of the entry decides the turn.
use borrow.Author.Rules.{rules}
use mathlib.Core.Path.{◌≡◌}
use native.Mathlib.Omega.{arith}
use Rattle.plan.specs.Lists.{int_at}
use Rattle.planrules.specs.Checks.{input_at}
use Rattle.entryrules.proofs.Laws.Testing.{element, true_by_answer, false_by_answer}
use Rattle.planrules.proofs.Laws.Findings.{begin, passed, found, none}
use Rattle.planrules.proofs.checks.check_inputs.Goals.{After-value_within_m}
use Rattle.planrules.proofs.checks.check_inputs.Goals as goal

pub loop-j-init : goal.loop-j-init
loop-j-init c = begin

-- what the call has said of the entry
answer : (c : After-value_within_m) → let a = c.args in
    c.value_within_m.result ≡ input_at a.inputs.now.firsts c.loop-j.j
answer c =
    let firsts = element {z = int_at c.args.inputs.now.firsts c.loop-j.j} (search rules) in
    rw firsts at c.value_within_m.ensures

pub returns-then-not-value_within_m : goal.returns-then-not-value_within_m
returns-then-not-value_within_m c =
    let told = answer (goal.at.returns-then-not-value_within_m c).After-value_within_m in
    found c.loop-j.invariant (omega arith) (false_by_answer told c.if-not-value_within_m.true)

pub loop-j-preserved : goal.loop-j-preserved
loop-j-preserved c =
    let told = answer (goal.at.loop-j-preserved c).After-value_within_m in
    passed c.loop-j.invariant (omega arith) (true_by_answer told c.if-not-value_within_m.false)

pub returns : goal.returns
returns c = none c.loop-j.invariant c.loop-j-test.false
