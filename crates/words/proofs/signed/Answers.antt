-- std's two's complement is that of width 4, and 32 and 64 bits hold it.
use Rattle.std.proofs.Common.{◌∙◌}
use Rattle.std.proofs.lemmas.Int.{to_z-of_z}
use Rattle.std.specs.Int.{w32, w64}
use Rattle.words.proofs.Laws.Library.{signed_is}
use Rattle.words.proofs.signed.Goals as goal

pub returns : goal.returns
returns c =
    let r = c.cast_signed in
    let narrow = to_z-of_z w32 r.result (record { sfits = r.type_inv }) in
    let wide = to_z-of_z w64 c.from.result (record { sfits = c.from.type_inv }) in
    wide ∙ c.from.ensures ∙ narrow ∙ r.ensures ∙ signed_is c.args.word c.requires
