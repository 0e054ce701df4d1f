-- A section more is added; the limits of the counts keep the sum small.
use mathlib.Core.Path.{sym}
use native.Mathlib.Omega.{arith}
use Rattle.planwriter.proofs.Laws.Header.{offset-none, offset_more, offset_limit, length_limit}
use Rattle.planwriter.proofs.section_offset.Goals as goal

pub loop-i-init : goal.loop-i-init
loop-i-init c = sym (offset-none c.args.counts.now)

pub section_length-offset-requires : goal.section_length-offset-requires
section_length-offset-requires c = (omega arith, c.requires.1)

pub overflow_add-offset : goal.overflow_add-offset
overflow_add-offset c =
    let i = c.loop-i.i in
    let cs = c.args.counts.now in
    omega (arith, offset_limit cs c.requires.1 i (omega arith), length_limit cs c.requires.1 i (omega arith))

pub loop-i-preserved : goal.loop-i-preserved
loop-i-preserved c =
    let more = offset_more c.args.counts.now c.loop-i.i in omega arith
