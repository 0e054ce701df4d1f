-- The signed value of the word that is read.
use mathlib.Core.Path.{ap, ◌∙◌}
use mir.Syntax.{w64}
use mir.ValLaws.{to_z-of_z}
use Rattle.words.specs.Word.{signed_of}
use Rattle.words.proofs.read_i32.Goals as goal

pub returns : goal.returns
returns c =
    let bits = to_z-of_z w64 c.signed.result (record { sfits = c.signed.type_inv }) in
    bits ∙ c.signed.ensures ∙ ap (signed_of 4) c.read_u32.ensures.answer
