-- The loop's invariant: the offset is that of section i.
use mathlib.Core.Path.{◌≡◌}
use Rattle.plan.specs.Encoding.{offset_from}
use Rattle.planwriter.proofs.section_offset.Given as goal

abbrev pub invariant-loop-i : goal.invariant-loop-i
invariant-loop-i l = l.offset ≡ offset_from l.counts l.i
