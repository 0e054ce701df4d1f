-- Model of the code: the table of what a change of each source reaches, as the code works it out. What it is by document 01's reach:
-- Laws/Reached.
use Rattle.std.specs.Prelude.{cond, List, ℕ, zero, suc, ◌+◌, ◌≤◌, ◌<◌, eqb, set, replicate}
use Rattle.bitset.specs.Mask.{has, each, union, with_bit}
use Rattle.plan.specs.Numbers.{most_integrators, most_nodes, most_links, source_width, kind_limit}
use Rattle.plan.specs.Lists.{nat_at}
use Rattle.plan.specs.declared.Links.{Links}
use Rattle.plan.specs.declared.Nodes.{Nodes}
use Rattle.plan.specs.declared.Plan.{Plan}

-- bit (bit e) set in entry (place e), for each e below the end
unfoldable pub marked : (place bit : ℕ → ℕ) (table : List ℕ) (e : ℕ) → List ℕ
marked place bit table zero = table
marked place bit table (suc e) = set (marked place bit table e) (place e) (with_bit (nat_at (marked place bit table e) (place e)) (bit e))

-- each link's target in the entry of its source
abbrev pub link_entries : Links → ℕ → List ℕ
link_entries links count = marked (nat_at links.sources) (nat_at links.targets) (replicate source_width 0) count

-- The lower half of an entry is the integrators', the upper half the nodes'.
abbrev pub first_node_bit : ℕ
first_node_bit = 32

-- each node in its own entry
abbrev pub own_entries : ℕ → List ℕ → ℕ → List ℕ
own_entries base table k = marked (λ j. base + j) (λ j. first_node_bit + j) table k

-- the bits of an entry added to a source's
abbrev pub added_to : List ℕ → ℕ → ℕ → List ℕ
added_to table source entry = set table source (union (nat_at table source) entry)

module _ (nodes : Nodes) (base : ℕ) where
  -- node j's entry added to those of the operands that it uses
  unfoldable pub added_to_operands : ℕ → List ℕ → List ℕ
  added_to_operands j table =
      let entry = nat_at table (base + j) in let left = added_to table (nat_at nodes.a j) entry in
      cond (eqb (nat_at nodes.kinds j) kind_limit) left (added_to left (nat_at nodes.b j) entry)

  -- "dependence is followed down through lower-numbered nodes": from node j - 1 down to node 0
  unfoldable pub followed_down : ℕ → List ℕ → List ℕ
  followed_down zero table = table
  followed_down (suc j) table = followed_down j (added_to_operands j table)

-- the table of a plan
unfoldable pub reach_table : Plan → List ℕ
reach_table p =
    let base = p.counts.n + p.counts.m in
    followed_down p.nodes base p.counts.k (own_entries base (link_entries p.links p.counts.links) p.counts.k)

-- the entries of the sources in a mask, joined
unfoldable pub entries_of : List ℕ → ℕ → ℕ
entries_of table changed = each (λ i entries. union entries (nat_at table i)) (has changed) 64 0

-- what the links ask, and what the nodes ask: operands are sources of a lower number
pub record LinksReady (links : Links) (count : ℕ) : Type 0 where
  pub few : count ≤ most_links
  pub target : (e : ℕ) → e < count → nat_at links.targets e < most_integrators
  pub source : (e : ℕ) → e < count → nat_at links.sources e < source_width

pub record OperandsReady (nodes : Nodes) (base k : ℕ) : Type 0 where
  pub room : base + k ≤ source_width
  pub a-below : (j : ℕ) → j < k → nat_at nodes.a j < base + j
  pub b-below : (j : ℕ) → j < k → nat_at nodes.b j < base + j

-- what the table of a plan asks
pub record TableReady (p : Plan) : Type 0 where
  pub few : p.counts.k ≤ most_nodes
  pub operands : OperandsReady p.nodes (p.counts.n + p.counts.m) p.counts.k
  pub links : LinksReady p.links p.counts.links
