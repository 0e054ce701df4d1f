-- A section ends inside the file, by the offset rule.
use mathlib.Core.Path.{◌≡◌}
use Prim.Native.Nat.{◌+◌, ◌-◌}
use native.Mathlib.Omega.{arith}
use Rattle.plan.specs.Format.{part, section_in}
use Rattle.plan.proofs.Laws.Parts.{section_end}
use Rattle.directory.proofs.section_in.Goals as goal

pub slice_bounds-result-end : goal.slice_bounds-result-end
slice_bounds-result-end c =
    omega (arith, section_end c.args.file.now c.requires.0.offsets c.args.section c.requires.1)

pub returns : goal.returns
unfolding section_in part
returns c =
    let at = c.offset_in-offset.result in
    let size = c.length_in.result in
    let e : at + size - at ≡ size = omega arith in
    let start = c.offset_in-offset.ensures.answer in
    record { answer = rw (e, start, c.length_in.ensures.answer); place = rw start }
