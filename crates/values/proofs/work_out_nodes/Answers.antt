-- Each turn works out a node of the mask, which is below k, and keeps the values within ±M.
use mathlib.Core.Path.{◌≡◌, refl, sym, ◌∙◌}
use mathlib.Core.Bool.{Bool, true, false}
use Prim.Native.Nat.{ℕ, ◌^◌, ◌<◌}
use Rattle.std.proofs.Common.{true≢false}
use borrow.Author.Tests.{ltb-true, ltb-false}
use lib.Dec.{ltb}
use Rattle.bitset.specs.Mask.{has}
use Rattle.bitset.proofs.Laws.Bits.{has-high}
use Rattle.bitset.proofs.Laws.Visiting.{walk_member, walk_turn, walk_done}
use Rattle.values.proofs.Laws.NodeSteps.{step-ready}
use Rattle.values.proofs.work_out_nodes.Goals.{In-Some}
use Rattle.values.proofs.work_out_nodes.Goals as goal

-- of a mask of k bits
node-below : {k mask j : ℕ} → mask < 2 ^ k → has mask j ≡ true → j < k
node-below {k} {mask} {j} h e = go (ltb j k) refl
  where
    go : (b : Bool) → ltb j k ≡ b → j < k
    go true l = ltb-true j k l
    go false l = absurd (true≢false (sym e ∙ has-high mask k j h (ltb-false j k l)))

module _ (c : In-Some) where
  taken-below : c.in-Some.j < c.args.k
  taken-below = node-below c.requires.0 (walk_member _ _ _ _ c.loop-j.invariant.0 c.in-Some.ensures.steps).1

pub work_out_node-requires : goal.work_out_node-requires
work_out_node-requires c = (taken-below (goal.at.work_out_node-requires c).In-Some, c.loop-j.invariant.1)

pub loop-j-preserved : goal.loop-j-preserved
loop-j-preserved c =
    let i = c.loop-j.invariant in
    rw c.work_out_node.ensures (
      walk_turn _ _ _ _ i.0 c.in-Some.ensures.steps,
      step-ready c.args.nodes.now c.args.base c.in-Some.j _ c.args.k (taken-below (goal.at.loop-j-preserved c).In-Some) i.1,
    )

pub returns : goal.returns
returns c = walk_done _ _ _ _ c.loop-j.invariant.0 c.in-None.ensures.steps
