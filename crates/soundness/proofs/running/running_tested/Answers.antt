-- Each comparison and each call is one of the clauses, in the code's order. The tables are worked out once the outputs and the inputs have
-- passed.
use borrow.Author.Tests.{le-leb, lt-leb, eq-eqb, ne_eqb}
use lib.Dec.{lit<}
use lib.ListN.{get_or}
use mathlib.Core.Bool.{Bool, true, false}
use Rattle.std.specs.Prelude.{None}
use mathlib.Core.List.{List}
use mathlib.Core.Path.{◌≡◌, ap, sym, ◌∙◌}
use native.Mathlib.Omega.{arith}
use Prim.Native.Nat.{ℕ, ◌<◌}
use Rattle.plan.specs.Lists.{every}
use Rattle.plan.proofs.Laws.CountLimits.{count-limits}
use Rattle.plan.specs.declared.Plan.{Plan}
use Rattle.machine.specs.Next.{next_command}
use Rattle.machine.specs.Held.{held_of}
use Rattle.machine.specs.SoundTest.{running_sound}
use Rattle.machine.specs.declared.Running.{Running}
use Rattle.tables.specs.Columns.{plan_tables}
use Rattle.tables.proofs.Laws.OfPlan.{tables_ready, tables_are}
use Rattle.entryrules.proofs.Laws.Testing.{true_by_answer, false_by_answer}
use Rattle.unusedentries.proofs.Laws.EarlyReturns.{passes, Passed, begin, next, passed_at, fails}
use Rattle.soundness.specs.Testing.{running_tested_of}
use Rattle.soundness.proofs.Laws.Answers.{figures-unsound, figures_sound_lem}
use Rattle.soundness.proofs.Laws.RunningTests.{clauses, running_tests, figures_at, output-size, input-size, figures-ready, figures_tested}
use Rattle.soundness.proofs.Laws.RunningTests.{updates_fit}
use Rattle.soundness.proofs.running.running_tested.Goals.{Start, Else-clock-plan, Else-not-values_within_m, Else-not-values_within_m-2, After-tables_by-tables, After-integrators_sound, Else-not-integrators_sound, After-next_entry, Else-next-next_entry, Else-instants-from, Else-updates-n, Else-not-running_unused_zero}
use Rattle.soundness.proofs.running.running_tested.Goals as goal

abbrev plan : Start → Plan
plan c = c.args.plan.now

abbrev run : Start → Running
run c = c.args.run.now

-- the clauses in their order, of the arguments at the entry
abbrev tests : Start → List Bool
tests c = clauses (plan c) (run c)

all_of : (c : Start) → passes (tests c) 8 ≡ running_sound (plan c) (run c)
all_of c = running_tests (plan c) (run c)

-- what is answered where test k fails, by itself or as a call has answered
stops : (c : Start) (k : ℕ) → k < 8 → get_or (tests c) k true ≡ false → None ≡ running_tested_of (plan c) (run c)
stops c k h e = figures-unsound (plan c) (run c) (fails (tests c) (all_of c) k h e)

stops_by : (c : Start) (k : ℕ) → k < 8 → {answer : Bool} → answer ≡ get_or (tests c) k true → answer ≡ false → None ≡ running_tested_of (plan c) (run c)
stops_by c k h e f = stops c k h (false_by_answer e f)

pub returns-then-clock-plan : goal.returns-then-clock-plan
returns-then-clock-plan c =
    stops (goal.at.returns-then-clock-plan c).Start 0 (lit< tt) (lt-leb _ _ c.if-clock-plan.true)

-- behind each test: that it has passed, and that all up to it have
test1 : (c : Else-clock-plan) → get_or (tests (goal.at.Else-clock-plan c).Start) 0 true ≡ true
test1 c = le-leb _ _ c.if-clock-plan.false

passed1 : (c : Else-clock-plan) → Passed (tests (goal.at.Else-clock-plan c).Start) 1
passed1 c = next (begin _) (test1 c)

pub values_within_m-requires : goal.values_within_m-requires
values_within_m-requires c = let s = (goal.at.values_within_m-requires c).Start in omega (arith, count-limits (plan s) c.requires.counts)

pub returns-then-not-values_within_m : goal.returns-then-not-values_within_m
returns-then-not-values_within_m c =
    stops_by (goal.at.returns-then-not-values_within_m c).Start 1 (lit< tt) c.values_within_m.ensures c.if-not-values_within_m.true

test2 : (c : Else-not-values_within_m) → get_or (tests (goal.at.Else-not-values_within_m c).Start) 1 true ≡ true
test2 c = true_by_answer c.values_within_m.ensures c.if-not-values_within_m.false

passed2 : (c : Else-not-values_within_m) → Passed (tests (goal.at.Else-not-values_within_m c).Start) 2
passed2 c = next (passed1 (goal.at.Else-not-values_within_m c).Else-clock-plan) (test2 c)

pub values_within_m-requires-2 : goal.values_within_m-requires-2
values_within_m-requires-2 c = let s = (goal.at.values_within_m-requires-2 c).Start in omega (arith, count-limits (plan s) c.requires.counts)

pub returns-then-not-values_within_m-2 : goal.returns-then-not-values_within_m-2
returns-then-not-values_within_m-2 c =
    stops_by (goal.at.returns-then-not-values_within_m-2 c).Start 2 (lit< tt) c.values_within_m-2.ensures c.if-not-values_within_m-2.true

test3 : (c : Else-not-values_within_m-2) → get_or (tests (goal.at.Else-not-values_within_m-2 c).Start) 2 true ≡ true
test3 c = true_by_answer c.values_within_m-2.ensures c.if-not-values_within_m-2.false

passed3 : (c : Else-not-values_within_m-2) → Passed (tests (goal.at.Else-not-values_within_m-2 c).Start) 3
passed3 c = next (passed2 (goal.at.Else-not-values_within_m-2 c).Else-not-values_within_m) (test3 c)

-- ---- the tables

pub tables_by-tables-requires : goal.tables_by-tables-requires
tables_by-tables-requires c =
    let at = goal.at.tables_by-tables-requires c in let s = at.Start in let p = passed3 at.Else-not-values_within_m-2 in
    let outputs = passed_at p 1 (lit< tt) in let inputs = passed_at p 2 (lit< tt) in
    tables_ready (plan s) s.requires (held_of (run s))
    (output-size (plan s) (run s) s.requires outputs inputs) (input-size (plan s) (run s) s.requires outputs inputs)

tables : (c : After-tables_by-tables) → let s = (goal.at.After-tables_by-tables c).Start in c.tables_by-tables.result ≡ plan_tables (plan s) (held_of (run s))
tables c = let s = (goal.at.After-tables_by-tables c).Start in tables_are (plan s) s.requires (held_of (run s)) c.tables_by-tables.ensures

-- ---- the integrators

pub integrators_sound-requires : goal.integrators_sound-requires
integrators_sound-requires c =
    let at = goal.at.integrators_sound-requires c in let s = at.Start in let p = passed3 at.Else-not-values_within_m-2 in
    let ready = figures-ready (plan s) (run s) s.requires (passed_at p 1 (lit< tt)) (passed_at p 2 (lit< tt)) (passed_at p 0 (lit< tt)) in
    ((count-limits (plan s) s.requires.counts).n, rw (ap (λ t. t.slopes) (tables at.After-tables_by-tables)) ready)

answer : (c : After-integrators_sound) → let s = (goal.at.After-integrators_sound c).Start in
    c.integrators_sound.result ≡ every (figures_at (plan s) (run s)) (plan s).counts.n
answer c =
    let at = goal.at.After-integrators_sound c in let s = at.Start in
    figures_tested (plan s) (run s) s.requires (ap (λ t. t.slopes) (tables at.After-tables_by-tables)) c.integrators_sound.ensures

pub returns-then-not-integrators_sound : goal.returns-then-not-integrators_sound
returns-then-not-integrators_sound c =
    let at = goal.at.returns-then-not-integrators_sound c in
    stops_by at.Start 3 (lit< tt) (answer at.After-integrators_sound) c.if-not-integrators_sound.true

test4 : (c : Else-not-integrators_sound) → get_or (tests (goal.at.Else-not-integrators_sound c).Start) 3 true ≡ true
test4 c = true_by_answer (answer (goal.at.Else-not-integrators_sound c).After-integrators_sound) c.if-not-integrators_sound.false

passed4 : (c : Else-not-integrators_sound) → Passed (tests (goal.at.Else-not-integrators_sound c).Start) 4
passed4 c = next (passed3 (goal.at.Else-not-integrators_sound c).Else-not-values_within_m-2) (test4 c)

-- ---- the rest

pub next_entry-requires : goal.next_entry-requires
next_entry-requires c = let s = (goal.at.next_entry-requires c).Start in (count-limits (plan s) s.requires.counts).commands

next_is : (c : After-next_entry) → let s = (goal.at.After-next_entry c).Start in c.next_entry.result ≡ next_command (plan s) (run s).clocks.clock
unfolding next_command
next_is c = c.next_entry.ensures

pub returns-then-next-next_entry : goal.returns-then-next-next_entry
returns-then-next-next_entry c =
    let at = goal.at.returns-then-next-next_entry c in
    let other = ne_eqb _ _ (λ h. c.if-next-next_entry.true (h ∙ sym (next_is at.After-next_entry))) in
    stops at.Start 4 (lit< tt) other

test5 : (c : Else-next-next_entry) → get_or (tests (goal.at.Else-next-next_entry c).Start) 4 true ≡ true
test5 c = eq-eqb _ _ (c.if-next-next_entry.false ∙ next_is (goal.at.Else-next-next_entry c).After-next_entry)

passed5 : (c : Else-next-next_entry) → Passed (tests (goal.at.Else-next-next_entry c).Start) 5
passed5 c = next (passed4 (goal.at.Else-next-next_entry c).Else-not-integrators_sound) (test5 c)

pub returns-then-instants-from : goal.returns-then-instants-from
returns-then-instants-from c =
    stops (goal.at.returns-then-instants-from c).Start 5 (lit< tt) (lt-leb _ _ (omega (arith, c.from.ensures)))

test6 : (c : Else-instants-from) → get_or (tests (goal.at.Else-instants-from c).Start) 5 true ≡ true
test6 c = le-leb _ _ (omega (arith, c.from.ensures))

passed6 : (c : Else-instants-from) → Passed (tests (goal.at.Else-instants-from c).Start) 6
passed6 c = next (passed5 (goal.at.Else-instants-from c).Else-next-next_entry) (test6 c)

pub overflow_mul-n : goal.overflow_mul-n
overflow_mul-n c =
    let at = goal.at.overflow_mul-n c in let s = at.Start in let p = passed6 at.Else-instants-from in
    updates_fit (plan s) (run s) s.requires (passed_at p 0 (lit< tt)) (passed_at p 5 (lit< tt))

pub returns-then-updates-n : goal.returns-then-updates-n
returns-then-updates-n c =
    stops (goal.at.returns-then-updates-n c).Start 6 (lit< tt) (lt-leb _ _ c.if-updates-n.true)

test7 : (c : Else-updates-n) → get_or (tests (goal.at.Else-updates-n c).Start) 6 true ≡ true
test7 c = le-leb _ _ c.if-updates-n.false

passed7 : (c : Else-updates-n) → Passed (tests (goal.at.Else-updates-n c).Start) 7
passed7 c = next (passed6 (goal.at.Else-updates-n c).Else-instants-from) (test7 c)

pub returns-then-not-running_unused_zero : goal.returns-then-not-running_unused_zero
returns-then-not-running_unused_zero c =
    stops_by (goal.at.returns-then-not-running_unused_zero c).Start 7 (lit< tt) c.running_unused_zero.ensures c.if-not-running_unused_zero.true

test8 : (c : Else-not-running_unused_zero) → get_or (tests (goal.at.Else-not-running_unused_zero c).Start) 7 true ≡ true
test8 c = true_by_answer c.running_unused_zero.ensures c.if-not-running_unused_zero.false

passed8 : (c : Else-not-running_unused_zero) → Passed (tests (goal.at.Else-not-running_unused_zero c).Start) 8
passed8 c = next (passed7 (goal.at.Else-not-running_unused_zero c).Else-updates-n) (test8 c)

-- ---- all tests have passed

pub returns : goal.returns
returns c =
    let at = goal.at.returns c in let s = at.Start in
    figures_sound_lem (plan s) (run s) (sym (all_of s) ∙ (passed8 at.Else-not-running_unused_zero).so_far) (tables at.After-tables_by-tables)
