-- The outputs stand first, the input values behind them, and zeros behind those.
use borrow.Author.Tests.{lt-ltb, le-ltb}
use lib.IntN.{pos}
use mathlib.Core.Path.{◌≡◌}
use Prim.Native.Nat.{◌+◌, ◌-◌}
use native.Mathlib.Omega.{arith}
use Rattle.std.proofs.lemmas.Grind.{common_steps}
use Rattle.values.specs.Sources.{output_and_input_values}
use Rattle.values.proofs.Laws.Copies.{copied_behind}
use Rattle.values.proofs.output_and_input_values.Goals as goal

pub returns : goal.returns
unfolding output_and_input_values
returns c =
    let n = c.args.n in let m = c.args.m in let q = c.args.q.now in let u = c.args.inputs.now in
    let r = c.requires in
    copied_behind (pos 0) 64 n m c.copy_from_slice.new.self c.copy_from_slice-2.new.self _ (grind (arith, common_steps)) (grind (arith, common_steps))
    (omega arith) (λ i h. rw (lt-ltb i n h) (grind (arith, common_steps)))
    (λ j h. let own : n + j - n ≡ j = omega arith in rw (le-ltb (n + j) n (omega arith), own) (grind (arith, common_steps)))
