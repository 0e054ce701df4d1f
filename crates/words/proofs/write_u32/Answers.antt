-- std's four bytes are those of width 4.
use Rattle.std.proofs.Common.{◌∙◌, arith}
use Rattle.words.proofs.Laws.Library.{bytes_put}
use Rattle.words.proofs.write_u32.Goals as goal

pub returns : goal.returns
returns c = bytes_put c.args.bytes.now c.args.at c.args.word _ (omega arith) (c.copy_from_slice.ensures.after ∙ c.to_le_bytes.ensures)
