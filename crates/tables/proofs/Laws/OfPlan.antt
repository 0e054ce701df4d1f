-- Laws: the tables worked out of a plan that keeps its rules, with outputs and input values within ±M, are the plan's.
-- Assumes nothing.
use Rattle.std.specs.Prelude.{◌≡◌, ℕ, ◌≤◌, ◌<◌}
use Rattle.std.proofs.Common.{◌∙◌}
use Rattle.integers.specs.Parts.{∣◌∣}
use Rattle.plan.specs.Numbers.{M}
use Rattle.plan.specs.Lists.{int_at}
use Rattle.plan.specs.Rules.{PlanRules}
use Rattle.plan.proofs.Laws.CountLimits.{count-limits}
use Rattle.plan.specs.declared.Plan.{Plan}
use Rattle.machine.specs.Held.{Held}
use Rattle.values.specs.Sources.{values_of}
use Rattle.values.proofs.Laws.SourceValues.{nodes-ready, first-sized, values_at, values-sized, all-nodes}
use Rattle.rates.proofs.Laws.OwnRange.{own-rated, own_slopes}
use Rattle.tables.specs.Columns.{plan_tables, tables_by, TablesReady}
use Rattle.tables.specs.declared.Tables.{Tables}

module _ (p : Plan) (rules : PlanRules p) (h : Held) where
  pub tables_are : {t : Tables}
      → t ≡ tables_by p h.q h.inputs
      → t ≡ plan_tables p h
  tables_are e =
      e ∙ rw (all-nodes p h.q h.inputs rules, own_slopes p rules (values_of p h.q h.inputs) h (values_at p h.q h.inputs rules))

  pub tables_ready : ((i : ℕ) → i < p.counts.n → ∣ int_at h.q i ∣ ≤ M) → ((j : ℕ) → j < p.counts.m → ∣ int_at h.inputs j ∣ ≤ M)
      → TablesReady p h.q h.inputs
  tables_ready outputs inputs =
      let c = count-limits p rules.counts in record {
        links = c.links;
        sources = record { n = c.n; m = c.m; nodes = nodes-ready p rules _ (first-sized p h.q h.inputs rules outputs inputs) };
        rates = rw (all-nodes p h.q h.inputs rules) (own-rated p rules _ (values-sized p h.q h.inputs rules outputs inputs));
      }
