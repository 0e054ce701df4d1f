-- Each turn stores the rate of one integrator more.
use borrow.Author.Rules.{sfits_of}
use lib.IntN.{pos}
use mir.Syntax.{w64}
use mir.Val.{SFits}
use mir.Facts.{to_z-of_z}
use Rattle.plan.proofs.Laws.Rows.{row_none, row_more}
use Rattle.rates.proofs.rates.Goals as goal

pub loop-i-init : goal.loop-i-init
loop-i-init c = row_none (pos 0) 32 _

pub loop-i-preserved : goal.loop-i-preserved
loop-i-preserved c =
    let l = c.loop-i in let whole : SFits w64 c.rate.result = sfits_of c.rate.type_inv in
    rw (l.invariant, to_z-of_z whole, c.rate.ensures) (row_more (pos 0) 32 l.i _)
