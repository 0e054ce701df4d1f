-- The outputs stand first, and zeros behind them.
use lib.IntN.{pos}
use native.Mathlib.Omega.{arith}
use Rattle.std.proofs.lemmas.Grind.{common_steps}
use Rattle.plan.specs.Lists.{int_at}
use Rattle.values.specs.Sources.{outputs_in}
use Rattle.values.proofs.Laws.Copies.{copied}
use Rattle.values.proofs.outputs_in.Goals as goal

pub returns : goal.returns
unfolding outputs_in
returns c =
    let n = c.args.n in let values = c.args.values.now in let q = c.copy_from_slice.new.self in
    copied (pos 0) 32 n q (int_at values) (grind (arith, common_steps)) (omega (arith, c.requires)) (λ i h. grind (arith, common_steps))
