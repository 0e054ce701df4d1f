-- What is read of an integrator fits, so the bits of the locals read as the integers.
use borrow.Author.Rules.{rules, sfits_of}
use mathlib.Core.Path.{◌∙◌}
use mir.Syntax.{w64}
use mir.Val.{SFits}
use mir.Facts.{to_z-of_z}
use Rattle.plan.specs.Lists.{int_at}
use Rattle.timing.proofs.ticks.position_at.Goals as goal

pub position-requires : goal.position-requires
position-requires c =
    let i = c.args.i in let m = c.args.motion.now in
    let x : SFits w64 (int_at m.x i) = record { sfits = search rules } in
    let s : SFits w64 (int_at m.s i) = record { sfits = search rules } in
    rw (to_z-of_z x, to_z-of_z s) c.requires.1

pub returns : goal.returns
returns c =
    let i = c.args.i in let m = c.args.motion.now in
    let x : SFits w64 (int_at m.x i) = record { sfits = search rules } in
    let s : SFits w64 (int_at m.s i) = record { sfits = search rules } in
    to_z-of_z {w = w64} (sfits_of c.position.type_inv) ∙ (rw (to_z-of_z x, to_z-of_z s) at c.position.ensures)
