-- Laws: the outputs and the input values that are read out of the values of sources are those that these values are of. Assumes nothing.
use Rattle.std.specs.Prelude.{◌≡◌, List, ◌+◌, ℤ, pos, length}
use Rattle.std.proofs.Common.{◌∙◌, arith}
use Rattle.plan.specs.Lists.{int_at}
use Rattle.plan.specs.Rules.{PlanRules}
use Rattle.plan.specs.Unused.{IntsZeroFrom}
use Rattle.plan.proofs.Laws.Rows.{row_ext, row_all}
use Rattle.plan.specs.declared.Plan.{Plan}
use Rattle.machine.proofs.Laws.Values.{integrator-value, input-source}
use Rattle.values.specs.Sources.{values_of, outputs_in, inputs_in}
use Rattle.values.proofs.Laws.SourceValues.{values_at}

module _ (p : Plan) (rules : PlanRules p) (q u : List ℤ) where
  pub outputs_read : length q ≡ 32 → IntsZeroFrom p.counts.n q → outputs_in p.counts.n (values_of p q u) ≡ q
  unfolding outputs_in
  outputs_read full unused =
      row_ext (pos 0) 32 p.counts.n _ (int_at q) (λ i h. values_at p q u rules i (omega arith) ∙ integrator-value p q u i h)
      ∙ row_all (pos 0) 32 p.counts.n q full unused

  pub inputs_read : length u ≡ 8 → IntsZeroFrom p.counts.m u → inputs_in p.counts.n p.counts.m (values_of p q u) ≡ u
  unfolding inputs_in
  inputs_read full unused =
      row_ext (pos 0) 8 p.counts.m _ (int_at u) (λ j h. values_at p q u rules (p.counts.n + j) (omega arith) ∙ input-source p q u j h)
      ∙ row_all (pos 0) 8 p.counts.m u full unused
