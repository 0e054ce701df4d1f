-- A turn writes one pair behind those before it.
use mathlib.Core.Path.{refl}
use Prim.Native.Nat.{◌*◌}
use native.Mathlib.Omega.{arith}
use Rattle.plan.specs.Encoding.{pair_entry}
use Rattle.planwriter.proofs.Laws.Header.{offset_limit, length_limit}
use Rattle.words.proofs.Laws.Putting.{length_behind}
use Rattle.sectionwriters.proofs.Laws.Writing.{none, entry}
use Rattle.planwriter.proofs.write_pairs.Goals as goal

pub loop-section-init : goal.loop-section-init
loop-section-init c = let a = c.args in none (pair_entry a.counts.now) a.buffer.now

pub section_offset-offset-requires : goal.section_offset-offset-requires
section_offset-offset-requires c = (omega arith, c.requires.1)

pub section_length-size-requires : goal.section_length-size-requires
section_length-size-requires c = (omega arith, c.requires.1)

pub write_pair-requires : goal.write_pair-requires
write_pair-requires c =
    let cs = c.args.counts.now in
    let k = c.loop-section.section in
    let l = length_behind c.loop-section.buffer (8 * k) in
    omega (arith, offset_limit cs c.requires.1 k (omega arith), length_limit cs c.requires.1 k (omega arith))

pub loop-section-preserved : goal.loop-section-preserved
loop-section-preserved c =
    let a = c.args in
    let b = c.loop-section in
    let offset = c.section_offset-offset.ensures in
    let size = c.section_length-size.ensures in
    let e = rw (offset, size) at c.write_pair.ensures in
    entry (pair_entry a.counts.now) 2 (λ _. refl) a.buffer.now b.section (8 * b.section) b.invariant (omega arith) (omega arith) e
