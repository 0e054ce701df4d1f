use borrow.Author.Tests.{eq-eqb, ne_eqb}
use mathlib.Core.Path.{refl, ap, ◌∙◌}
use Rattle.bitset.specs.Mask.{mask_of, with_bit}
use Rattle.bitset.proofs.Laws.Bits.{mask_of_in, mask_of_out}
use Rattle.bitset.proofs.where_equal.Goals.{then-ticks-i, else-ticks-i}
use Rattle.bitset.proofs.where_equal.Goals as goal

pub loop-i-init : goal.loop-i-init
unfolding mask_of
loop-i-init c = refl

pub loop-i-preserved : goal.loop-i-preserved
loop-i-preserved c =
    let l = c.loop-i in elim c.if-ticks-i.branch [
      | then-ticks-i w ↦ w.equal-is ∙ w.with_bit-equal.ensures ∙ ap (λ x. with_bit x l.i) l.invariant ∙ mask_of_in _ l.i (eq-eqb _ _ w.if-ticks-i.true)
      | else-ticks-i w ↦ w.equal-is ∙ l.invariant ∙ mask_of_out _ l.i (ne_eqb _ _ w.if-ticks-i.false)
    ]
