-- A turn writes one entry behind those before it.
use mathlib.Core.Path.{refl}
use Prim.Native.Nat.{◌*◌}
use native.Mathlib.Omega.{arith}
use Rattle.plan.specs.Encoding.{integrator_entry}
use Rattle.words.proofs.Laws.Putting.{length_behind}
use Rattle.sectionwriters.proofs.Laws.Writing.{rd_at, rd_small, none, entry}
use Rattle.sectionwriters.proofs.write_integrators.Goals as goal

pub loop-i-init : goal.loop-i-init
loop-i-init c = none _ c.args.buffer.now

pub write_integrator-requires : goal.write_integrator-requires
write_integrator-requires c =
    let p = c.requires.fitting in
    let i = c.loop-i.i in
    let h = c.loop-i-test.true in
    let l = length_behind c.loop-i.buffer (8 * i) in
    (omega arith, rd_small p.0 i h, rd_small p.1 i h)

pub loop-i-preserved : goal.loop-i-preserved
loop-i-preserved c =
    let b = c.loop-i in
    let h = c.loop-i-test.true in
    let e = rw (rd_at c.requires.fitting.0 b.i h, rd_at c.requires.fitting.1 b.i h) at c.write_integrator.ensures in
    entry (integrator_entry c.args.integrators.now.starts c.args.integrators.now.quanta) 2 (λ _. refl) c.args.buffer.now b.i (8 * b.i) b.invariant (omega arith) (omega arith) e
