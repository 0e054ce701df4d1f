-- A turn writes one entry behind those before it.
use mathlib.Core.Path.{refl}
use Prim.Native.Nat.{◌*◌}
use native.Mathlib.Omega.{arith}
use Rattle.plan.specs.Encoding.{node_entry}
use Rattle.words.proofs.Laws.Putting.{length_behind}
use Rattle.sectionwriters.proofs.Laws.Writing.{rd_at, rd_small, none, entry}
use Rattle.sectionwriters.proofs.write_nodes.Goals as goal

pub loop-j-init : goal.loop-j-init
loop-j-init c = none _ c.args.buffer.now

pub write_node-requires : goal.write_node-requires
write_node-requires c =
    let p = c.requires.fitting in
    let j = c.loop-j.j in
    let h = c.loop-j-test.true in
    let l = length_behind c.loop-j.buffer (20 * j) in
    (omega arith, p.0.small j h, p.1.small j h, p.2.small j h, rd_small p.3 j h, rd_small p.4 j h)

pub loop-j-preserved : goal.loop-j-preserved
loop-j-preserved c =
    let b = c.loop-j in
    let h = c.loop-j-test.true in
    let e = rw (rd_at c.requires.fitting.3 b.j h, rd_at c.requires.fitting.4 b.j h) at c.write_node.ensures in
    entry (node_entry c.args.nodes.now.kinds c.args.nodes.now.a c.args.nodes.now.b c.args.nodes.now.lows c.args.nodes.now.highs) 5 (λ _. refl) c.args.buffer.now b.j (20 * b.j) b.invariant (omega arith) (omega arith) e
