-- The words of the entry are put one behind the other.
use Rattle.words.proofs.Laws.Putting.{begin, more, more_signed}
use Rattle.words.proofs.write_triple.Goals as goal

pub returns : goal.returns
returns c =
    let a = c.args in
    let w1 = more (begin a.bytes.now) a.first c.write_u32.ensures in
    let w2 = more w1 a.second c.write_u32-2.ensures in
    (more_signed w2 a.value c.requires.3 c.write_i32.ensures).words
