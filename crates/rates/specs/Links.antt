-- Model of the code: an integrator's own links as a range of links, and the rate over a range. What it is by document 01's sum over all
-- links: Laws/OwnRange.
use Rattle.std.specs.Prelude.{List, ℕ, zero, suc, ◌+◌, ◌-◌, ◌≤◌, ◌<◌, ℤ, pos, ◌+ℤ◌, ◌*ℤ◌, leb}
use Rattle.integers.specs.Parts.{∣◌∣}
use Rattle.integers.specs.Division.{floor65536}
use Rattle.plan.specs.Numbers.{M, largest_coefficient, most_integrators, most_links, source_width}
use Rattle.plan.specs.Lists.{nat_at, int_at, row, first_from}
use Rattle.plan.specs.declared.Links.{Links}
use Rattle.plan.specs.declared.Plan.{Plan}

-- the first link whose target is i or above, or the number of links
unfoldable pub first_link : List ℕ → ℕ → ℕ → ℕ
first_link targets links i = first_from (λ e. leb i (nat_at targets e)) 0 links

-- the table of a plan: integrator i's links are those from entry i to before entry i + 1
unfoldable pub ranges_of : Plan → List ℕ
ranges_of p = row 0 (most_integrators + 1) (p.counts.n + 1) (first_link p.links.targets p.counts.links)

-- coefficient × source value of link e, where `values` holds the value of each source
abbrev pub term : (links : Links) (values : List ℤ) (e : ℕ) → ℤ
term links values e = int_at links.coefficients e *ℤ int_at values (nat_at links.sources e)

-- f from, .., f (from + count - 1), added up
unfoldable pub sum_from : (ℕ → ℤ) → ℕ → ℕ → ℤ
sum_from f from zero = pos 0
sum_from f from (suc count) = sum_from f from count +ℤ f (from + count)

-- the rate by the links from .. to
unfoldable pub range_rate : (links : Links) (values : List ℤ) (from to : ℕ) → ℤ
range_rate links values from to = floor65536 (sum_from (term links values) from (to - from))

-- what that asks: at most 256 links, and terms that are not beyond 2^54
pub record RateReady (links : Links) (values : List ℤ) (from to : ℕ) : Type 0 where
  pub order : from ≤ to
  pub few : to ≤ most_links
  pub known : (e : ℕ) → e < to → nat_at links.sources e < source_width
  pub small : (e : ℕ) → e < to → ∣ int_at links.coefficients e ∣ ≤ largest_coefficient
  pub sized : (i : ℕ) → ∣ int_at values i ∣ ≤ M

-- of the first n integrators, by the table of ranges
abbrev pub RatesReady : (n : ℕ) (links : Links) (ranges : List ℕ) (values : List ℤ) → Type 0
RatesReady n links ranges values = (i : ℕ) → i < n → RateReady links values (nat_at ranges i) (nat_at ranges (i + 1))
