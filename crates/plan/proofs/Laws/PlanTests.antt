-- Laws: each test of a plan means its rule: the horizon, the counts, integrators, inputs, nodes, links and commands. Assumes nothing.
use Rattle.std.specs.Prelude.{◌≡◌, Bool, true, false, cond, ◌&&◌, ℤ, pos, leb, ltb, eqb}
use Rattle.std.proofs.Math.Path.{refl}
use Prim.Native.Nat.{ℕ, ◌+◌}
use Rattle.std.proofs.Common.{arith, leb-true, leb-false, eqb-true}
use Rattle.std.specs.Int.Signed.{le_z}
use Rattle.std.proofs.lemmas.Bool.{eqb-false}
use Rattle.integers.specs.Parts.{∣◌∣}
use Rattle.integers.proofs.Laws.Order.{le_z_true}
use Rattle.integers.specs.Range.{within}
use Rattle.plan.specs.Numbers.{M, sections}
use Rattle.plan.specs.Lists.{nat_at, int_at}
use Rattle.plan.specs.Tests.{count_kept, horizon_kept, count_list, counts_kept, integrator_kept, input_kept, node_test, node_kept}
use Rattle.plan.specs.Tests.{link_limits_kept, link_ordered, command_limits_kept, command_ordered}
use Rattle.plan.specs.Rules.{Within, CountRule, HorizonRule, CountsRule, IntegratorRule, InputRule, NodeRule, LinkRule, CommandRule}
use Rattle.plan.specs.declared.Plan.{Plan}
use Rattle.plan.proofs.Laws.TestMeanings.{Means, leb_means, ltb_means, eqb_means, zero_means, within_means, ascends_means}
use Rattle.plan.proofs.Laws.TestMeanings.{both, negated, every_means}

pub count_kept_lem : (k count : ℕ) → Means (count_kept k count) (CountRule k count)
unfolding count_kept
count_kept_lem k count = both (leb_means _ count) (leb_means count _)

module _ (p : Plan) where
  pub horizon_kept_lem : Means (horizon_kept p.horizon) (HorizonRule p)
  unfolding horizon_kept
  horizon_kept_lem = both (leb_means 1 _) (leb_means _ 2000000000)

  pub counts_kept_lem : Means (counts_kept p) (CountsRule p)
  unfolding counts_kept
  counts_kept_lem = every_means (λ k. count_kept_lem k (nat_at (count_list p) k)) sections

  pub integrator_kept_lem : (i : ℕ) → Means (integrator_kept p i) (IntegratorRule p i)
  unfolding integrator_kept
  integrator_kept_lem i =
      let quantum = int_at p.integrators.quanta i in
      let all = both (both (within_means M (int_at p.integrators.starts i)) (le_z_true (pos 1) quantum)) (le_z_true quantum (pos M)) in
      (λ t. let h = all.0 t in record { start = h.0.0; least = h.0.1; most = h.1 }, λ r. all.1 ((r.start, r.least), r.most))

  pub input_kept_lem : (j : ℕ) → Means (input_kept p j) (InputRule p j)
  unfolding input_kept
  input_kept_lem j = within_means M (int_at p.inputs.firsts j)

  pub node_kept_lem : (j : ℕ) → Means (node_kept p j) (NodeRule p j)
  unfolding node_kept node_test
  node_kept_lem j = go (leb kind 1) (eqb kind 2) refl refl
    where
      kind : ℕ
      kind = nat_at p.nodes.kinds j

      own : ℕ
      own = p.counts.n + p.counts.m + j

      a : ℕ
      a = nat_at p.nodes.a j

      b : ℕ
      b = nat_at p.nodes.b j

      lo : ℤ
      lo = int_at p.nodes.lows j

      hi : ℤ
      hi = int_at p.nodes.highs j

      limits : Means (within M lo && within M hi) (Within M lo × Within M hi)
      limits = both (within_means M lo) (within_means M hi)

      go : (s t : Bool) → leb kind 1 ≡ s → eqb kind 2 ≡ t
          → Means (ltb a own && cond s (ltb b own && eqb ∣ lo ∣ 0 && eqb ∣ hi ∣ 0)
          (within M lo && within M hi && cond t (eqb b 0 && le_z lo hi) (eqb kind 3 && ltb b own))) (NodeRule p j)
      go true t e d =
          let low = leb-true kind 1 e in
          let all = both (ltb_means a own) (both (both (ltb_means b own) (zero_means lo)) (zero_means hi)) in (
            λ t. let h = all.0 t in record {
              kind = omega arith;
              a-below = h.0;
              b-below = λ q. h.1.0.0;
              unused = λ q. absurd (omega arith);
              no_limits = λ q. (h.1.0.1, h.1.1);
              limits = λ q. absurd (omega arith);
              order = λ q. absurd (omega arith);
            },
            λ r. let z = r.no_limits low in all.1 (r.a-below, ((r.b-below (λ q. omega arith), z.0), z.1)),
          )
      go false true e d =
          let is = eqb-true kind 2 d in
          let all = both (ltb_means a own) (both limits (both (eqb_means b 0) (le_z_true lo hi))) in (
            λ t. let h = all.0 t in record {
              kind = omega arith;
              a-below = h.0;
              b-below = λ q. absurd (q is);
              unused = λ q. h.1.1.0;
              no_limits = λ q. absurd (omega arith);
              limits = λ q. h.1.0;
              order = λ q. h.1.1.1;
            },
            λ r. all.1 (r.a-below, (r.limits (omega arith), (r.unused is, r.order is))),
          )
      go false false e d =
          let high = leb-false kind 1 e in let not = eqb-false kind 2 d in
          let all = both (ltb_means a own) (both limits (both (eqb_means kind 3) (ltb_means b own))) in (
            λ t. let h = all.0 t in record {
              kind = omega (arith, h.1.1.0);
              a-below = h.0;
              b-below = λ q. h.1.1.1;
              unused = λ q. absurd (not q);
              no_limits = λ q. absurd (omega arith);
              limits = λ q. h.1.0;
              order = λ q. absurd (not q);
            },
            λ r. all.1 (r.a-below, (r.limits high, (omega (arith, r.kind), r.b-below not))),
          )

  pub link_kept : (e : ℕ) → Means (link_limits_kept p e && link_ordered p e) (LinkRule p e)
  unfolding link_limits_kept link_ordered
  link_kept e =
      let c = int_at p.links.coefficients e in
      let names = both (ltb_means _ p.counts.n) (ltb_means _ (p.counts.n + p.counts.m + p.counts.k)) in
      let limits = both (both names (negated (zero_means c))) (within_means 16777216 c) in
      let all = both limits (ascends_means p.links.targets p.links.sources e) in (
        λ t. let h = all.0 t in record {
          target = h.0.0.0.0;
          source = h.0.0.0.1;
          nonzero = h.0.0.1;
          coefficient = h.0.1;
          order = h.1;
        },
        λ r. all.1 ((((r.target, r.source), r.nonzero), r.coefficient), r.order),
      )

  pub command_kept : (e : ℕ) → Means (command_limits_kept p e && command_ordered p e) (CommandRule p e)
  unfolding command_limits_kept command_ordered
  command_kept e =
      let tick = both (leb_means 1 _) (leb_means _ p.horizon) in
      let limits = both (both tick (ltb_means _ p.counts.m)) (within_means M (int_at p.commands.values e)) in
      let all = both limits (ascends_means p.commands.ticks p.commands.inputs e) in (
        λ t. let h = all.0 t in record {
          least = h.0.0.0.0;
          most = h.0.0.0.1;
          input = h.0.0.1;
          value = h.0.1;
          order = h.1;
        },
        λ r. all.1 ((((r.least, r.most), r.input), r.value), r.order),
      )
