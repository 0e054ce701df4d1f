-- The words of the entry are put one behind the other.
use Rattle.words.proofs.Laws.Putting.{begin, more_signed}
use Rattle.sectionwriters.proofs.write_integrator.Goals as goal

pub returns : goal.returns
returns c =
    let a = c.args in
    let w1 = more_signed (begin a.buffer.now) a.start c.requires.1 c.write_i32.ensures in
    (more_signed w1 a.quantum c.requires.2 c.write_i32-2.ensures).words
