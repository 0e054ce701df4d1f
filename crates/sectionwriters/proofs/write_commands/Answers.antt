-- A turn writes one entry behind those before it.
use mathlib.Core.Path.{refl}
use Prim.Native.Nat.{◌*◌}
use native.Mathlib.Omega.{arith}
use Rattle.plan.specs.Encoding.{triple_entry}
use Rattle.words.proofs.Laws.Putting.{length_behind}
use Rattle.sectionwriters.proofs.Laws.Writing.{rd_at, rd_small, none, entry}
use Rattle.sectionwriters.proofs.write_commands.Goals as goal

pub loop-e-init : goal.loop-e-init
loop-e-init c = none _ c.args.buffer.now

pub write_triple-requires : goal.write_triple-requires
write_triple-requires c =
    let p = c.requires.fitting in
    let e = c.loop-e.e in
    let h = c.loop-e-test.true in
    let l = length_behind c.loop-e.buffer (12 * e) in
    (omega arith, p.0.small e h, p.1.small e h, rd_small p.2 e h)

pub loop-e-preserved : goal.loop-e-preserved
loop-e-preserved c =
    let b = c.loop-e in
    let h = c.loop-e-test.true in
    let e = rw (rd_at c.requires.fitting.2 b.e h) at c.write_triple.ensures in
    entry (triple_entry c.args.commands.now.ticks c.args.commands.now.inputs c.args.commands.now.values) 3 (λ _. refl) c.args.buffer.now b.e (12 * b.e) b.invariant (omega arith) (omega arith) e
