-- The number's word is put.
use mathlib.Core.Path.{ap, ◌∙◌}
use mir.Syntax.{w64}
use mir.ValLaws.{to_z-of_z}
use Rattle.words.specs.Putting.{put}
use Rattle.words.specs.Word.{word_of}
use Rattle.words.proofs.write_i32.Goals as goal

pub returns : goal.returns
returns c =
    let a = c.args in
    let e = c.unsigned.ensures.answer ∙ ap word_of (to_z-of_z w64 a.value c.ranges.value) in
    c.write_u32.ensures ∙ ap (put 4 a.bytes.now a.at) e
