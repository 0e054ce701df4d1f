-- Each comparison is one of the definition's tests, in their order; once the others have passed, the due tick may be worked out.
use borrow.Author.Tests.{lt-ltb, le-ltb, le-leb, lt-leb}
use lib.Dec.{eqb, lit<}
use lib.ListN.{get_or}
use mathlib.Core.Bool.{Bool, true, false}
use mathlib.Core.List.{List}
use mathlib.Core.Path.{◌≡◌, ap}
use mir.Facts.{to_z-of_z}
use Rattle.soundintegrators.specs.Figures.{figures_sound}
use Rattle.unusedentries.proofs.Laws.EarlyReturns.{passes, Passed, begin, next, passed_at, fails, last}
use Rattle.soundintegrators.proofs.Laws.OneIntegrator.{figure_clauses, figure_tests, same_slope, other_slope}
use Rattle.soundintegrators.proofs.Laws.OneIntegrator.{above_lower, below-upper, due-ready}
use Rattle.soundintegrators.proofs.figures_sound.Goals.{Start, Else-l-clock, Else-d-clock, Else-x-lower, Else-x-upper, Else-s-slope}
use Rattle.soundintegrators.proofs.figures_sound.Goals as goal

-- the tests in their order, of the arguments at the entry
abbrev tests : Start → List Bool
tests c = let a = c.args in figure_clauses a.upper a.lower a.slope a.clock a.x a.s a.l a.d

all_of : (c : Start) → let a = c.args in passes (tests c) 6 ≡ figures_sound a.upper a.lower a.slope a.clock a.x a.s a.l a.d
all_of c = let a = c.args in figure_tests a.upper a.lower a.slope a.clock a.x a.s a.l a.d

pub returns-then-l-clock : goal.returns-then-l-clock
returns-then-l-clock c = let s = c.before in fails (tests s) (all_of s) 0 (lit< tt) (lt-leb _ _ c.if-l-clock.true)

-- behind each test: the function's entry, that this test has passed, and that all up to it have
abbrev entry1 : Else-l-clock → Start
entry1 c = c.before

test1 : (c : Else-l-clock) → get_or (tests (entry1 c)) 0 true ≡ true
test1 c = le-leb _ _ c.if-l-clock.false

passed1 : (c : Else-l-clock) → Passed (tests (entry1 c)) 1
passed1 c = next (begin (tests (entry1 c))) (test1 c)

pub returns-then-d-clock : goal.returns-then-d-clock
returns-then-d-clock c = let s = entry1 c.before in fails (tests s) (all_of s) 1 (lit< tt) (le-ltb _ _ c.if-d-clock.true)

abbrev entry2 : Else-d-clock → Start
entry2 c = entry1 c.before

test2 : (c : Else-d-clock) → get_or (tests (entry2 c)) 1 true ≡ true
test2 c = lt-ltb _ _ c.if-d-clock.false

passed2 : (c : Else-d-clock) → Passed (tests (entry2 c)) 2
passed2 c = next (passed1 c.before) (test2 c)

pub returns-then-x-lower : goal.returns-then-x-lower
returns-then-x-lower c =
    let s = entry2 c.before in let f = s.ranges in
    fails (tests s) (all_of s) 2 (lit< tt) (above_lower f.x f.lower true c.if-x-lower.true)

abbrev entry3 : Else-x-lower → Start
entry3 c = entry2 c.before

test3 : (c : Else-x-lower) → get_or (tests (entry3 c)) 2 true ≡ true
test3 c = let f = (entry3 c).ranges in above_lower f.x f.lower false c.if-x-lower.false

passed3 : (c : Else-x-lower) → Passed (tests (entry3 c)) 3
passed3 c = next (passed2 c.before) (test3 c)

pub returns-then-x-upper : goal.returns-then-x-upper
returns-then-x-upper c =
    let s = entry3 c.before in let f = s.ranges in
    fails (tests s) (all_of s) 3 (lit< tt) (below-upper f.x f.upper true c.if-x-upper.true)

abbrev entry4 : Else-x-upper → Start
entry4 c = entry3 c.before

test4 : (c : Else-x-upper) → get_or (tests (entry4 c)) 3 true ≡ true
test4 c = let f = (entry4 c).ranges in below-upper f.x f.upper false c.if-x-upper.false

passed4 : (c : Else-x-upper) → Passed (tests (entry4 c)) 4
passed4 c = next (passed3 c.before) (test4 c)

pub returns-then-s-slope : goal.returns-then-s-slope
returns-then-s-slope c =
    let s = entry4 c.before in let a = s.args in
    fails (tests s) (all_of s) 4 (lit< tt) (other_slope a.s a.slope c.if-s-slope.true)

abbrev entry5 : Else-s-slope → Start
entry5 c = entry4 c.before

test5 : (c : Else-s-slope) → get_or (tests (entry5 c)) 4 true ≡ true
test5 c = let f = (entry5 c).ranges in same_slope f.s f.slope c.if-s-slope.false

passed5 : (c : Else-s-slope) → Passed (tests (entry5 c)) 5
passed5 c = next (passed4 c.before) (test5 c)

pub due_tick-requires : goal.due_tick-requires
due_tick-requires c =
    let s = entry5 c in let f = s.ranges in let p = passed5 c in
    rw (to_z-of_z f.x, to_z-of_z f.upper, to_z-of_z f.lower, to_z-of_z f.s)
    (due-ready s.requires _ _ _ (passed_at p 0 (lit< tt)) (passed_at p 2 (lit< tt)) (passed_at p 3 (lit< tt)) (passed_at p 4 (lit< tt)))

pub returns : goal.returns
returns c =
    let e = (goal.at.returns c).Else-s-slope in let s = entry5 e in let f = s.ranges in
    let due = rw (to_z-of_z f.x, to_z-of_z f.upper, to_z-of_z f.lower, to_z-of_z f.s) at c.due_tick.ensures in
    last (passed5 e) (all_of s) (ap (eqb s.args.d) due)
