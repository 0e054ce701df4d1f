-- The words of the entry are put one behind the other.
use Rattle.words.proofs.Laws.Putting.{begin, more}
use Rattle.planwriter.proofs.write_pair.Goals as goal

pub returns : goal.returns
returns c =
    let a = c.args in
    let w1 = more (begin a.buffer.now) a.offset c.write_u32.ensures in
    (more w1 a.size c.write_u32-2.ensures).words
