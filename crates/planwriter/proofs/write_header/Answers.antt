-- The horizon's word, and the pairs in the part behind it.
use mathlib.Core.Path.{refl}
use mathlib.Core.List.{[], ◌∷◌}
use native.Mathlib.Omega.{arith}
use Rattle.words.proofs.Laws.Flat.{written-part}
use Rattle.plan.specs.Numbers.{sections}
use Rattle.plan.specs.Lists.{joined}
use Rattle.plan.specs.Encoding.{pair_entry}
use Rattle.words.proofs.Laws.Putting.{begin, more}
use Rattle.planwriter.proofs.write_header.Goals as goal

pub returns : goal.returns
returns c =
    let a = c.args in
    let old = a.buffer.now in
    let first = (more (begin old) a.horizon (rw c.from.ensures at c.write_u32.ensures)).words in
    let h = c.requires.0 in
    written-part (a.horizon ∷ []) (joined (pair_entry a.counts.now) sections) old 4 first refl (omega arith) c.write_pairs.ensures
