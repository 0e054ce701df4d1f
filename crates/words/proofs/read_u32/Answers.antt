-- std's number of four bytes is the number of width 4.
use Rattle.std.proofs.Common.{◌∙◌}
use Rattle.words.proofs.Laws.Library.{from_le}
use Rattle.words.proofs.read_u32.Goals as goal

pub returns-clause-answer : goal.returns-clause-answer
returns-clause-answer c = c.from.ensures ∙ c.from_le_bytes.ensures ∙ from_le c.args.bytes.now c.args.at
