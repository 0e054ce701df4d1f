-- The operands and limits are within ±M, so they fit and are read back from their bits.
use borrow.Author.Rules.{rules, sfits_of}
use mathlib.Core.Path.{◌≡◌}
use Prim.Native.Nat.{ℕ}
use mir.Facts.{to_z-of_z}
use Rattle.integers.proofs.Laws.Signed64.{rd, fits_size}
use Rattle.plan.specs.Numbers.{M}
use Rattle.plan.specs.Lists.{int_at}
use Rattle.values.specs.Sources.{node_from, node_step}
use Rattle.values.proofs.work_out_node.Goals.{Start}
use Rattle.values.proofs.work_out_node.Goals as goal

module _ (s : Start) where
  abbrev j : ℕ
  j = s.args.j

  -- what is read back from the bits
  value : (i : ℕ) → rd (int_at s.args.values.now i) ≡ int_at s.args.values.now i
  value i = to_z-of_z (fits_size (int_at s.args.values.now i) M (s.requires.1.sized i) tt)

  low : rd (int_at s.args.nodes.now.lows j) ≡ int_at s.args.nodes.now.lows j
  low = to_z-of_z (fits_size (int_at s.args.nodes.now.lows j) M (s.requires.1.low j s.requires.0) tt)

  high : rd (int_at s.args.nodes.now.highs j) ≡ int_at s.args.nodes.now.highs j
  high = to_z-of_z (fits_size (int_at s.args.nodes.now.highs j) M (s.requires.1.high j s.requires.0) tt)

pub returns : goal.returns
unfolding node_step node_from
returns c =
    let s : Start = search rules in
    rw (to_z-of_z (sfits_of c.node_value.type_inv), c.node_value.ensures) (simp (value s, low s, high s))
