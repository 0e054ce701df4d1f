-- Laws: the tests of a plan in the order of the code, section by section. That they pass just where the plan keeps all its rules and all its
-- unused entries are 0, which the definition tests one after the other, goes by what both mean. Assumes nothing.
use Rattle.std.specs.Prelude.{◌≡◌, Bool, true, false, ◌&&◌, List, [], ◌∷◌, ◌+◌, Ok}
use Rattle.std.proofs.Common.{sym, ap, ◌∙◌, lit<}
use Rattle.plan.specs.Numbers.{sections}
use Rattle.plan.specs.Lists.{every, nat_at}
use Rattle.plan.specs.Tests.{horizon_kept, count_list, count_kept, counts_kept, integrator_kept, input_kept, node_kept, link_limits_kept, link_ordered, command_limits_kept, command_ordered}
use Rattle.plan.specs.Refusals.{Finding, is_clean, integrators_finding, inputs_finding, nodes_finding, links_finding, commands_finding}
use Rattle.plan.specs.declared.Plan.{Plan}
use Rattle.plan.proofs.Laws.TestMeanings.{both}
use Rattle.plan.proofs.Laws.CountLimits.{CountLimits, count-limits}
use Rattle.plan.proofs.Laws.PlanTests.{horizon_kept_lem, counts_kept_lem}
use Rattle.plan.proofs.Laws.Findings.{clean_means}
use Rattle.plan.proofs.Laws.PlanRefusals.{integrators_judged, inputs_judged, nodes_judged, links_judged, commands_judged}
use Rattle.plan.proofs.Laws.Entries.{unused_nat, unused_int}
use Rattle.machine.specs.SoundTest.{plan_sound}
use Rattle.machine.proofs.Laws.SoundTest.{plan_means}
use Rattle.unusedentries.proofs.Laws.EarlyReturns.{passes, same_tests}
use Rattle.soundplan.specs.Sections.{integrators_kept, inputs_kept, nodes_kept, links_kept, commands_kept}

-- ---- what a section's check has found
pub clean : {found right : Finding} → found ≡ right → found ≡ Ok tt → is_clean right ≡ true
unfolding is_clean
clean result e = ap is_clean (sym result ∙ e)

pub faulty : {found right : Finding} → found ≡ right → is_clean found ≡ false → is_clean right ≡ false
faulty result e = sym (ap is_clean result) ∙ e

-- ---- the order of the code
module _ (p : Plan) where
  -- the test of the counts, in a list as the code has them
  abbrev pub limited : Bool
  limited = every (λ section. count_kept section (nat_at (p.counts.n ∷ p.counts.m ∷ p.counts.k ∷ p.counts.links ∷ p.counts.commands ∷ []) section)) sections

  -- behind it the counts are inside their limits
  pub limits : limited ≡ true → CountLimits p
  unfolding counts_kept count_list
  limits e = count-limits p ((counts_kept_lem p).0 e)

  abbrev pub plan_clauses : List Bool
  plan_clauses =
      counts_kept p
      ∷ horizon_kept p.horizon
      ∷ integrators_kept p.counts.n p.integrators.starts p.integrators.quanta
      ∷ inputs_kept p.counts.m p.inputs.firsts
      ∷ nodes_kept (p.counts.n + p.counts.m) p.counts.k p.nodes.kinds p.nodes.a p.nodes.b p.nodes.lows p.nodes.highs
      ∷ links_kept p.counts.n (p.counts.n + p.counts.m + p.counts.k) p.counts.links p.links.targets p.links.sources p.links.coefficients
      ∷ commands_kept p.horizon p.counts.m p.counts.commands p.commands.ticks p.commands.inputs p.commands.values
      ∷ []

  pub section_tests : passes plan_clauses 7 ≡ plan_sound p
  unfolding passes every integrators_kept inputs_kept nodes_kept links_kept commands_kept integrators_finding integrator_kept inputs_finding input_kept
      nodes_finding node_kept links_finding link_limits_kept link_ordered commands_finding command_limits_kept command_ordered
  section_tests =
      let c = p.counts in
      let integrators =
      both (both (clean_means 5 (lit< tt) c.n _ (integrators_judged p)) (unused_int _ p.integrators.starts)) (unused_int _ p.integrators.quanta) in
      let inputs = both (clean_means 6 (lit< tt) c.m _ (inputs_judged p)) (unused_int _ p.inputs.firsts) in
      let kinds = both (clean_means 7 (lit< tt) c.k _ (nodes_judged p)) (unused_nat _ p.nodes.kinds) in
      let operands = both (both kinds (unused_nat _ p.nodes.a)) (unused_nat _ p.nodes.b) in
      let nodes = both (both operands (unused_int _ p.nodes.lows)) (unused_int _ p.nodes.highs) in
      let targets = both (clean_means 8 (lit< tt) c.links _ (links_judged p)) (unused_nat _ p.links.targets) in
      let links = both (both targets (unused_nat _ p.links.sources)) (unused_int _ p.links.coefficients) in
      let ticks = both (clean_means 9 (lit< tt) c.commands _ (commands_judged p)) (unused_nat _ p.commands.ticks) in
      let commands = both (both ticks (unused_nat _ p.commands.inputs)) (unused_int _ p.commands.values) in
      let whole = both (both (both (both (both (both (counts_kept_lem p) (horizon_kept_lem p)) integrators) inputs) nodes) links) commands in
      same_tests whole (plan_means p) (
        λ t. let c = t.1 in let l = t.0.1 in let n = t.0.0.1 in let u = t.0.0.0.1 in let i = t.0.0.0.0.1 in let f = t.0.0.0.0.0 in (
          record {
            counts = f.0;
            horizon = f.1;
            integrators = i.0.0;
            inputs = u.0;
            nodes = n.0.0.0.0.0;
            links = l.0.0.0;
            commands = c.0.0.0;
          },
          record {
            starts = i.0.1;
            quanta = i.1;
            firsts = u.1;
            kinds = n.0.0.0.0.1;
            a = n.0.0.0.1;
            b = n.0.0.1;
            lows = n.0.1;
            highs = n.1;
            targets = l.0.0.1;
            sources = l.0.1;
            coefficients = l.1;
            ticks = c.0.0.1;
            inputs = c.0.1;
            values = c.1;
          },
        ),
        λ s. let r = s.0 in let u = s.1 in (
          (
            (
              (((r.counts, r.horizon), ((r.integrators, u.starts), u.quanta)), (r.inputs, u.firsts)),
              (((((r.nodes, u.kinds), u.a), u.b), u.lows), u.highs),
            ),
            (((r.links, u.targets), u.sources), u.coefficients),
          ),
          (((r.commands, u.ticks), u.inputs), u.values),
        ),
      )

  -- the same as one condition, as the code has it
  pub plan_tests : plan_sound p ≡ (
      limited
      && horizon_kept p.horizon
      && integrators_kept p.counts.n p.integrators.starts p.integrators.quanta
      && inputs_kept p.counts.m p.inputs.firsts
      && nodes_kept (p.counts.n + p.counts.m) p.counts.k p.nodes.kinds p.nodes.a p.nodes.b p.nodes.lows p.nodes.highs
      && links_kept p.counts.n (p.counts.n + p.counts.m + p.counts.k) p.counts.links p.links.targets p.links.sources p.links.coefficients
      && commands_kept p.horizon p.counts.m p.counts.commands p.commands.ticks p.commands.inputs p.commands.values
      )
  unfolding passes every counts_kept count_list
  plan_tests = sym section_tests
