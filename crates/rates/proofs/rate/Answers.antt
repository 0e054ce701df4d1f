-- Each turn adds the term of one link, and every sum on the way fits.
use mathlib.Core.Path.{◌≡◌, ap, ◌∙◌}
use Prim.Native.Nat.{◌+◌, ◌-◌}
use native.Mathlib.Omega.{arith}
use borrow.Author.Rules.{sfits_of}
use mir.Syntax.{w64}
use mir.Val.{SFits}
use mir.Facts.{to_z-of_z}
use Rattle.integers.specs.Division.{floor65536}
use Rattle.plan.specs.Lists.{nat_at}
use Rattle.rates.specs.Links.{sum_from, range_rate}
use Rattle.rates.proofs.Laws.Sums.{sum_more, coefficient_fits, value_fits, term_fits, sum_fits}
use Rattle.rates.proofs.rate.Goals as goal

pub loop-e-init : goal.loop-e-init
unfolding sum_from
loop-e-init c = let none : c.args.from - c.args.from ≡ 0 = omega arith in rw none

pub overflow_mul-sum : goal.overflow_mul-sum
overflow_mul-sum c =
    let r = c.requires in let e = c.loop-e.e in
    let x = coefficient_fits r e (omega arith) in let y = value_fits r (nat_at c.args.links.now.sources e) in
    simp to_z-of_z (term_fits r e (omega arith))

pub overflow_add-sum : goal.overflow_add-sum
overflow_add-sum c =
    let r = c.requires in let l = c.loop-e in
    let x = coefficient_fits r l.e (omega arith) in let y = value_fits r (nat_at c.args.links.now.sources l.e) in
    let p = term_fits r l.e (omega arith) in
    simp (l.invariant, to_z-of_z, ← sum_more r l.e (omega arith)) (sum_fits r (l.e + 1) (omega arith) (omega arith))

pub loop-e-preserved : goal.loop-e-preserved
loop-e-preserved c =
    let r = c.requires in let l = c.loop-e in
    let x = coefficient_fits r l.e (omega arith) in let y = value_fits r (nat_at c.args.links.now.sources l.e) in
    let p = term_fits r l.e (omega arith) in let d = sum_fits r (l.e + 1) (omega arith) (omega arith) in
    simp (l.invariant, to_z-of_z, ← sum_more r l.e (omega arith))

pub returns : goal.returns
unfolding range_rate
returns c =
    let l = c.loop-e in let end : l.e ≡ c.args.to = omega arith in
    let whole : SFits w64 c.floor_65536.result = sfits_of c.floor_65536.type_inv in
    to_z-of_z whole ∙ c.floor_65536.ensures ∙ ap floor65536 l.invariant ∙ rw end
