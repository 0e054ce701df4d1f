-- `bitset::wide::union_shifted` meets its contract: the shift loses nothing, and the two have no bit in common. Assumes nothing.
use mathlib.Core.Path.{ap, ◌∙◌}
use native.Mathlib.Omega.{arith}
use lib.Pow.{shl_exact}
use lib.Bits.{bit_or, or_shifted}
use Rattle.bitset.specs.Mask.{union_shifted}
use Rattle.bitset.proofs.wide.union_shifted.Goals as goal

pub returns : goal.returns
unfolding union_shifted
returns c =
    let a = c.args in
    rw (c.from.ensures, c.from-2.ensures)
    (ap (λ x. bit_or x a.low) (shl_exact 32 a.n 64 (omega arith) (omega arith)) ∙ or_shifted a.high a.n a.low c.requires.1)
