-- Model of the code: the tables as they are worked out, and what that asks. What they are of a plan that keeps its rules: `plan_tables`, by
-- Laws/OfPlan.
use Rattle.std.specs.Prelude.{List, ◌+◌, ◌≤◌, ℤ, pos}
use Rattle.plan.specs.Numbers.{most_integrators, most_links}
use Rattle.plan.specs.Lists.{nat_at, row}
use Rattle.plan.specs.declared.Plan.{Plan}
use Rattle.machine.specs.Held.{Held, slope_of}
use Rattle.values.specs.Sources.{values_of, values_by, SourcesReady}
use Rattle.rates.specs.Links.{ranges_of, range_rate, RatesReady}
use Rattle.tables.specs.declared.Tables.{Tables}

-- the tables of a plan, by what is held
abbrev pub plan_tables : Plan → Held → Tables
plan_tables p h =
    record {
      ranges = ranges_of p;
      values = values_of p h.q h.inputs;
      slopes = row (pos 0) most_integrators p.counts.n (slope_of p h);
    }

module _ (p : Plan) (q inputs : List ℤ) where
  -- the slope of each integrator, by the values and ranges as the code works them out
  abbrev slopes_by : List ℤ
  slopes_by =
      let values = values_by p q inputs in
      row (pos 0) most_integrators p.counts.n (λ i. range_rate p.links values (nat_at (ranges_of p) i) (nat_at (ranges_of p) (i + 1)))

  abbrev pub tables_by : Tables
  tables_by = record { ranges = ranges_of p; values = values_by p q inputs; slopes = slopes_by }

  pub record TablesReady : Type 0 where
    pub links : p.counts.links ≤ most_links
    pub sources : SourcesReady p q inputs
    pub rates : RatesReady p.counts.n p.links (ranges_of p) (values_by p q inputs)
