-- Laws: the refusals 4 to 9 of a plan: what each stage finds, and that all are clean just where the plan keeps its rules. Assumes nothing.
use Rattle.std.specs.Prelude.{◌≡◌, true, ◌↔◌}
use Rattle.std.proofs.Math.Path.{refl}
use Rattle.std.proofs.Common.{arith}
use Rattle.plan.specs.Tests.{counts_kept}
use Rattle.plan.specs.Refusals.{refusal_number, refusal_entry, is_clean, horizon_finding, integrators_finding, inputs_finding, nodes_finding}
use Rattle.plan.specs.Refusals.{links_finding, commands_finding, plan_finding}
use Rattle.plan.specs.Rules.{HorizonRule, IntegratorRule, InputRule, NodeRule, LinkRule, CommandRule, PlanRules}
use Rattle.plan.specs.declared.Plan.{Plan}
use Rattle.plan.specs.declared.Refusal.TheVariants.{Horizon, Integrator, Input, Node, Link, Command}
use Rattle.plan.proofs.Laws.PlanTests.{horizon_kept_lem, counts_kept_lem, integrator_kept_lem, input_kept_lem, node_kept_lem, link_kept, command_kept}
use Rattle.plan.proofs.Laws.Findings.{Judged, judged_one, judged_all, clean_means, clean_both}

module _ (p : Plan) where
  pub horizon_judged : Judged (λ _. HorizonRule p) 4 0 1 (horizon_finding p)
  unfolding horizon_finding refusal_number refusal_entry
  horizon_judged = judged_one 4 (omega arith) 0 _ Horizon (horizon_kept_lem p) refl refl

  pub integrators_judged : Judged (IntegratorRule p) 5 0 p.counts.n (integrators_finding p)
  unfolding integrators_finding refusal_number refusal_entry
  integrators_judged = judged_all 5 (omega arith) _ Integrator (integrator_kept_lem p) (λ e. refl) (λ e. refl) p.counts.n

  pub inputs_judged : Judged (InputRule p) 6 0 p.counts.m (inputs_finding p)
  unfolding inputs_finding refusal_number refusal_entry
  inputs_judged = judged_all 6 (omega arith) _ Input (input_kept_lem p) (λ e. refl) (λ e. refl) p.counts.m

  pub nodes_judged : Judged (NodeRule p) 7 0 p.counts.k (nodes_finding p)
  unfolding nodes_finding refusal_number refusal_entry
  nodes_judged = judged_all 7 (omega arith) _ Node (node_kept_lem p) (λ e. refl) (λ e. refl) p.counts.k

  pub links_judged : Judged (LinkRule p) 8 0 p.counts.links (links_finding p)
  unfolding links_finding refusal_number refusal_entry
  links_judged = judged_all 8 (omega arith) _ Link (link_kept p) (λ e. refl) (λ e. refl) p.counts.links

  pub commands_judged : Judged (CommandRule p) 9 0 p.counts.commands (commands_finding p)
  unfolding commands_finding refusal_number refusal_entry
  commands_judged = judged_all 9 (omega arith) _ Command (command_kept p) (λ e. refl) (λ e. refl) p.counts.commands

  pub plan-rules : ((counts_kept p ≡ true) × (is_clean (plan_finding p) ≡ true)) ↔ PlanRules p
  unfolding plan_finding
  plan-rules =
      let clean = clean_both _ _ (clean_means 4 (omega arith) 1 _ horizon_judged)
      (clean_both _ _ (clean_means 5 (omega arith) p.counts.n _ integrators_judged)
      (clean_both _ _ (clean_means 6 (omega arith) p.counts.m _ inputs_judged)
      (clean_both _ _ (clean_means 7 (omega arith) p.counts.k _ nodes_judged)
      (clean_both _ _ (clean_means 8 (omega arith) p.counts.links _ links_judged)
      (clean_means 9 (omega arith) p.counts.commands _ commands_judged))))) in (
        λ t. let h = clean.0 t.1 in record {
          counts = (counts_kept_lem p).0 t.0;
          horizon = h.0 0 (omega arith);
          integrators = h.1.0;
          inputs = h.1.1.0;
          nodes = h.1.1.1.0;
          links = h.1.1.1.1.0;
          commands = h.1.1.1.1.1;
        },
        λ r. (
          (counts_kept_lem p).1 r.counts,
          clean.1 (λ e h. r.horizon, (r.integrators, (r.inputs, (r.nodes, (r.links, r.commands))))),
        ),
      )
