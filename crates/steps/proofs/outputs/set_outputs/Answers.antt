-- A turn sets the output of an integrator that is due, which is an index of the arrays.
use borrow.Author.Rules.{rules, sfits_of}
use mir.Syntax.{w64}
use mir.Facts.{to_z-of_z}
use Rattle.bitset.proofs.Laws.Visiting.{walk_member, walk_turn, walk_done}
use Rattle.steps.specs.Outputs.{after_output}
use Rattle.steps.proofs.outputs.set_outputs.Goals as goal

pub position_at-requires : goal.position_at-requires
position_at-requires c =
    (search rules, c.requires.ready c.in-Some.i (walk_member _ _ _ _ c.loop-i.invariant c.in-Some.ensures.steps).1)

pub loop-i-preserved : goal.loop-i-preserved
unfolding after_output
loop-i-preserved c =
    rw (to_z-of_z {w = w64} (sfits_of c.position_at.type_inv), c.position_at.ensures)
    (walk_turn _ _ _ _ c.loop-i.invariant c.in-Some.ensures.steps)

pub returns : goal.returns
returns c = walk_done _ _ _ _ c.loop-i.invariant c.in-None.ensures.steps
