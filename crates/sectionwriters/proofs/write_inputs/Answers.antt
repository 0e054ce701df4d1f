-- A turn writes one entry behind those before it.
use mathlib.Core.Path.{refl}
use Prim.Native.Nat.{◌*◌}
use native.Mathlib.Omega.{arith}
use Rattle.plan.specs.Encoding.{input_entry}
use Rattle.words.proofs.Laws.Putting.{length_behind}
use Rattle.sectionwriters.proofs.Laws.Writing.{rd_at, rd_small, none, entry}
use Rattle.sectionwriters.proofs.write_inputs.Goals as goal

pub loop-j-init : goal.loop-j-init
loop-j-init c = none _ c.args.buffer.now

pub write_input-requires : goal.write_input-requires
write_input-requires c =
    let p = c.requires.fitting in
    let j = c.loop-j.j in
    let h = c.loop-j-test.true in
    let l = length_behind c.loop-j.buffer (4 * j) in
    (omega arith, rd_small p j h)

pub loop-j-preserved : goal.loop-j-preserved
loop-j-preserved c =
    let b = c.loop-j in
    let h = c.loop-j-test.true in
    let e = rw (rd_at c.requires.fitting b.j h) at c.write_input.ensures in
    entry (input_entry c.args.inputs.now.firsts) 1 (λ _. refl) c.args.buffer.now b.j (4 * b.j) b.invariant (omega arith) (omega arith) e
