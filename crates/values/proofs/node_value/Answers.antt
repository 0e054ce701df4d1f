-- Each kind is a case of the definition, with the operands read through their bits.
use borrow.Author.Rules.{rules, sfits_of}
use borrow.Author.Tests.{ne_eqb}
use mathlib.Core.Path.{◌≡◌, ◌∙◌}
use mathlib.Core.Bool.{true, false}
use Prim.Native.Nat.{◌<◌}
use native.Mathlib.Omega.{arith}
use mir.Facts.{to_z-of_z}
use mir.Syntax.{w64}
use mir.Val.{SFits}
use lib.IntN.{◌-ℤ◌, ◌*ℤ◌}
use lib.Signed.{le_z}
use Rattle.integers.proofs.Laws.Parts.{zs}
use Rattle.integers.proofs.Laws.Signed64.{fits_sub, fits_mul}
use Rattle.plan.specs.Numbers.{M}
use Rattle.machine.specs.Values.{node_value}
use Rattle.values.proofs.node_value.Goals.{Start}
use Rattle.values.proofs.node_value.Goals as goal

module _ (s : Start) where
  difference_fits : SFits w64 (s.args.a -ℤ s.args.b)
  difference_fits = fits_sub s.args.a s.args.b M M s.requires.0 s.requires.1 tt

  product_fits : SFits w64 (s.args.a *ℤ s.args.b)
  product_fits = fits_mul s.args.a s.args.b M M s.requires.0 s.requires.1 tt

pub returns-in-0 : goal.returns-in-0
unfolding node_value
returns-in-0 c =
    let s = (goal.at.returns-in-0 c).Start in let a = s.ranges.a in let b = s.ranges.b in let f = difference_fits s in
    to_z-of_z {w = w64} (sfits_of c.clip.type_inv) ∙ c.clip.ensures ∙ simp (to_z-of_z, c.in-0.is)

pub returns-in-1 : goal.returns-in-1
unfolding node_value
returns-in-1 c =
    let s = (goal.at.returns-in-1 c).Start in let a = s.ranges.a in let b = s.ranges.b in let f = product_fits s in
    to_z-of_z {w = w64} (sfits_of c.clip-in-1.type_inv) ∙ c.clip-in-1.ensures
    ∙ rw (to_z-of_z {w = w64} (sfits_of c.floor_65536.type_inv), c.floor_65536.ensures) (simp (to_z-of_z, c.in-1.is))

pub returns-in-2 : goal.returns-in-2
unfolding node_value
returns-in-2 c =
    let a = c.ranges.a in let lo = c.ranges.lo in let hi = c.ranges.hi in
    to_z-of_z {w = w64} (sfits_of c.limit.type_inv) ∙ c.limit.ensures ∙ simp (to_z-of_z, c.in-2.is)

pub returns-then-a-b : goal.returns-then-a-b
unfolding node_value
returns-then-a-b c =
    let a = c.ranges.a in let b = c.ranges.b in let k = c.args.kind in
    let above : 2 < k = omega arith in
    let test : le_z c.args.b c.args.a ≡ true = omega (arith, zs, simp to_z-of_z at c.if-a-b.true) in
    to_z-of_z {w = w64} c.ranges.hi ∙ rw (ne_eqb k 0 (λ e. omega arith), ne_eqb k 1 (λ e. omega arith), ne_eqb k 2 (λ e. omega arith), test)

pub returns-else-a-b : goal.returns-else-a-b
unfolding node_value
returns-else-a-b c =
    let a = c.ranges.a in let b = c.ranges.b in let k = c.args.kind in
    let above : 2 < k = search rules in
    let test : le_z c.args.b c.args.a ≡ false = omega (arith, zs, simp to_z-of_z at c.if-a-b.false) in
    to_z-of_z {w = w64} c.ranges.lo ∙ rw (ne_eqb k 0 (λ e. omega arith), ne_eqb k 1 (λ e. omega arith), ne_eqb k 2 (λ e. omega arith), test)
