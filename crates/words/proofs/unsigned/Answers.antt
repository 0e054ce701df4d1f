-- std's bits of the number, which 32 and 64 bits hold, are its word.
use Rattle.std.proofs.Common.{◌∙◌, to_z-of_z}
use Rattle.words.proofs.Laws.Library.{unsigned_is}
use Rattle.words.proofs.unsigned.Goals as goal

pub returns-clause-answer : goal.returns-clause-answer
returns-clause-answer c =
    let bits = rw (to_z-of_z c.ranges.value, to_z-of_z {z = c.args.value} (record { sfits = c.requires })) at c.cast_unsigned.ensures in
    c.from.ensures ∙ bits ∙ unsigned_is c.args.value
