-- The input values stand behind the outputs.
use lib.IntN.{pos}
use Prim.Native.Nat.{◌+◌}
use native.Mathlib.Omega.{arith}
use Rattle.std.proofs.lemmas.Grind.{common_steps}
use Rattle.plan.specs.Lists.{int_at}
use Rattle.values.specs.Sources.{inputs_in}
use Rattle.values.proofs.Laws.Copies.{copied}
use Rattle.values.proofs.inputs_in.Goals as goal

pub returns : goal.returns
unfolding inputs_in
returns c =
    let n = c.args.n in let m = c.args.m in let values = c.args.values.now in let u = c.copy_from_slice.new.self in
    copied (pos 0) 8 m u (λ j. int_at values (n + j)) (grind (arith, common_steps)) (omega (arith, c.requires)) (λ j h. grind (arith, common_steps))
