-- The words of the entry are put one behind the other.
use Rattle.words.proofs.Laws.Putting.{begin, more, more_signed}
use Rattle.sectionwriters.proofs.write_node.Goals as goal

pub returns : goal.returns
returns c =
    let a = c.args in
    let w1 = more (begin a.buffer.now) a.kind c.write_u32.ensures in
    let w2 = more w1 a.a c.write_u32-2.ensures in
    let w3 = more w2 a.b c.write_u32-3.ensures in
    let w4 = more_signed w3 a.lo c.requires.4 c.write_i32.ensures in
    (more_signed w4 a.hi c.requires.5 c.write_i32-2.ensures).words
