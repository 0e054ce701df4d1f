-- What the call says of the entry decides the turn.
use borrow.Author.Rules.{rules}
use mathlib.Core.Path.{◌≡◌}
use native.Mathlib.Omega.{arith}
use Rattle.plan.specs.Lists.{int_at}
use Rattle.planrules.specs.Checks.{integrator_at}
use Rattle.entryrules.proofs.Laws.Testing.{element, true_by_answer, false_by_answer}
use Rattle.planrules.proofs.Laws.Findings.{begin, passed, found, none}
use Rattle.planrules.proofs.checks.check_integrators.Goals.{After-integrator_test}
use Rattle.planrules.proofs.checks.check_integrators.Goals as goal

pub loop-i-init : goal.loop-i-init
loop-i-init c = begin

-- what the call has said of the entry
answer : (c : After-integrator_test) → let a = c.args in
    c.integrator_test.result ≡ integrator_at a.integrators.now.starts a.integrators.now.quanta c.loop-i.i
answer c =
    let starts = element {z = int_at c.args.integrators.now.starts c.loop-i.i} (search rules) in
    let quanta = element {z = int_at c.args.integrators.now.quanta c.loop-i.i} (search rules) in
    rw (starts, quanta) at c.integrator_test.ensures

pub returns-then-not-integrator_test : goal.returns-then-not-integrator_test
returns-then-not-integrator_test c =
    let told = answer (goal.at.returns-then-not-integrator_test c).After-integrator_test in
    found c.loop-i.invariant (omega arith) (false_by_answer told c.if-not-integrator_test.true)

pub loop-i-preserved : goal.loop-i-preserved
loop-i-preserved c =
    let told = answer (goal.at.loop-i-preserved c).After-integrator_test in
    passed c.loop-i.invariant (omega arith) (true_by_answer told c.if-not-integrator_test.false)

pub returns : goal.returns
returns c = none c.loop-i.invariant c.loop-i-test.false
