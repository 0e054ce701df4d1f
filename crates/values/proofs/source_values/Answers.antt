-- Visiting the mask of all nodes is visiting each node below k.
use mathlib.Core.Path.{◌∙◌}
use mathlib.Core.Bool.{true}
use native.Mathlib.Omega.{arith}
use Rattle.bitset.proofs.Laws.Bits.{mask_of_lt}
use Rattle.bitset.proofs.Laws.Visiting.{each_mask}
use Rattle.values.proofs.source_values.Goals as goal

pub work_out_nodes-requires : goal.work_out_nodes-requires
work_out_nodes-requires c =
    rw (c.all.ensures, c.output_and_input_values-values.ensures) (mask_of_lt (λ _. true) c.args.plan.now.counts.k, c.requires.nodes)

pub returns : goal.returns
returns c =
    let few = c.requires.nodes.few in
    c.work_out_nodes.ensures
    ∙ rw (c.all.ensures, c.output_and_input_values-values.ensures)
    (each_mask _ (λ _. true) c.args.plan.now.counts.k 32 _ (omega arith))
