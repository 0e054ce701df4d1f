-- The words of the entry are put one behind the other.
use Rattle.words.proofs.Laws.Putting.{begin, more_signed}
use Rattle.sectionwriters.proofs.write_input.Goals as goal

pub returns : goal.returns
returns c =
    let a = c.args in
    (more_signed (begin a.buffer.now) a.first c.requires.1 c.write_i32.ensures).words
