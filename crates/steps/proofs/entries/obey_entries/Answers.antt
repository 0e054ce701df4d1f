-- A turn obeys one entry of the tick, whose number is one of the 32; an entry of another tick, or none, ends it.
use mathlib.Core.Path.{◌≡◌, sym, ◌∙◌}
use borrow.Author.Tests.{eq-eqb, ne_eqb}
use native.Mathlib.Omega.{arith}
use borrow.Author.Rules.{rules}
use mir.Syntax.{w64}
use mir.Val.{SFits}
use mir.Facts.{to_z-of_z}
use Rattle.plan.specs.Lists.{int_at}
use Rattle.steps.specs.Entries.{after_entries, after_entry}
use Rattle.steps.proofs.Laws.EntryTurns.{one_more, other_tick, none_left}
use Rattle.steps.proofs.entries.obey_entries.Goals as goal

pub loop-e-preserved : goal.loop-e-preserved
unfolding after_entry
loop-e-preserved c =
    let l = c.loop-e in let a = c.args in let k = a.commands.now in
    let fits : SFits w64 (int_at k.values l.e) = record { sfits = search rules } in
    rw (to_z-of_z fits, c.with_bit-numbers.ensures)
    (one_more a.first k.ticks k.inputs k.values a.t l.e a.count (after_entries l.values l.numbers l.e) c.loop-e-test.true (eq-eqb _ _ c.if-commands-e.false)
    ∙ l.invariant)

pub returns-then-commands-e : goal.returns-then-commands-e
returns-then-commands-e c =
    let l = c.loop-e in let a = c.args in let k = a.commands.now in
    sym (other_tick a.first k.ticks k.inputs k.values a.t l.e a.count _ (ne_eqb _ _ c.if-commands-e.true)) ∙ l.invariant

pub returns : goal.returns
returns c =
    let l = c.loop-e in let a = c.args in let k = a.commands.now in
    let end : l.e ≡ a.count = omega (arith, c.requires.order) in
    rw end at (sym (none_left a.first k.ticks k.inputs k.values a.t l.e a.count _ c.loop-e-test.false) ∙ l.invariant)
