-- The move and the sum fit, so the bits of the locals read as the integers.
use mathlib.Core.Path.{◌≡◌, ◌∙◌}
use Prim.Native.Nat.{◌-◌}
use native.Mathlib.Omega.{arith}
use lib.IntN.{pos, ◌+ℤ◌, ◌*ℤ◌}
use mir.Syntax.{w64}
use mir.Val.{SFits, to_z}
use mir.Facts.{to_z-of_z, to_z_pos}
use Rattle.integers.proofs.Laws.Signed64.{rd}
use Rattle.timing.proofs.Laws.Arithmetic.{move_fits, position_fits}
use Rattle.timing.proofs.ticks.position.Reads as reads
use Rattle.timing.proofs.ticks.position.Lts as lts
use Rattle.timing.proofs.ticks.position.Goals as goal

abbrev Start : Type 0
Start = lts.Start reads.Pre reads.Post

elapsed : (c : Start) → to_z w64 (c.args.t - c.args.l) ≡ pos (c.args.t - c.args.l)
elapsed c = to_z_pos w64 (omega arith)

-- what the code multiplies and adds, in bits
moved : (c : Start) → let a = c.args in SFits w64 (rd a.s *ℤ to_z w64 (a.t - a.l))
moved c = rw (to_z-of_z c.ranges.s, elapsed c) (move_fits _ _ _ _ c.requires)

placed : (c : Start) → let a = c.args in SFits w64 (rd a.x +ℤ rd (rd a.s *ℤ to_z w64 (a.t - a.l)))
placed c = rw (to_z-of_z c.ranges.x, to_z-of_z (moved c), to_z-of_z c.ranges.s, elapsed c) (position_fits _ _ _ _ c.requires)

pub overflow_mul-result : goal.overflow_mul-result
overflow_mul-result c = moved c

pub overflow_add-result : goal.overflow_add-result
overflow_add-result c = placed c

pub returns : goal.returns
returns c = to_z-of_z (placed c) ∙ rw (to_z-of_z c.ranges.x, to_z-of_z (moved c), to_z-of_z c.ranges.s, elapsed c)
