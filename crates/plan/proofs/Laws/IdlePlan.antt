-- Laws: the idle plan keeps the rules, its unused entries are 0, and its arrays have their full width. Assumes nothing.
use Rattle.std.specs.Prelude.{refl}
use Rattle.integers.specs.Range.{within}
use Rattle.plan.specs.Lists.{every, all}
use Rattle.plan.specs.Format.{PlanWidths}
use Rattle.plan.specs.Tests.{count_kept, count_list, counts_kept, horizon_kept, integrator_kept}
use Rattle.plan.specs.Refusals.{number_of, is_clean, or_else, first_finding, horizon_finding, integrators_finding, inputs_finding}
use Rattle.plan.specs.Refusals.{nodes_finding, links_finding, commands_finding, plan_finding}
use Rattle.plan.specs.Rules.{PlanRules}
use Rattle.plan.specs.Unused.{PlanUnusedZero, nats_zero_from, ints_zero_from, plan_unused_zero}
use Rattle.plan.specs.Idle.{idle_plan}
use Rattle.plan.proofs.Laws.Entries.{plan-unused}
use Rattle.plan.proofs.Laws.PlanRefusals.{plan-rules}

pub idle-rules : PlanRules idle_plan
unfolding every within count_kept count_list counts_kept horizon_kept integrator_kept number_of is_clean or_else first_finding horizon_finding
    integrators_finding inputs_finding nodes_finding links_finding commands_finding plan_finding
idle-rules = (plan-rules idle_plan).0 (refl, refl)

pub idle-unused : PlanUnusedZero idle_plan
unfolding all nats_zero_from ints_zero_from plan_unused_zero
idle-unused = (plan-unused idle_plan).0 refl

pub idle-shaped : PlanWidths idle_plan
idle-shaped = record {
  starts = refl;
  quanta = refl;
  firsts = refl;
  kinds = refl;
  a = refl;
  b = refl;
  lows = refl;
  highs = refl;
  targets = refl;
  sources = refl;
  coefficients = refl;
  ticks = refl;
  inputs = refl;
  values = refl;
}
