-- `bitset::all` meets its contract: all below n is 2 ^ n - 1, and at 64 bits the shift loses nothing. Assumes nothing.
use mathlib.Core.Path.{ap, sym, ◌∙◌}
use Prim.Native.Nat.{◌-◌}
use native.Mathlib.Omega.{arith}
use lib.Pow.{pow_pos}
use Rattle.bitset.proofs.Laws.Bits.{one_shl, all_of_is}
use Rattle.bitset.proofs.all.Goals as goal

pub overflow_sub-result : goal.overflow_sub-result
overflow_sub-result c = omega (arith, one_shl 64 c.args.n (omega arith), pow_pos c.args.n)

pub returns : goal.returns
returns c = ap (λ x. x - 1) (one_shl 64 c.args.n (omega arith)) ∙ sym (all_of_is c.args.n)
