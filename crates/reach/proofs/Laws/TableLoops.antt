-- Laws: what one turn of each loop, and one step down the nodes, makes of the table, and that it stays inside. Assumes nothing.
use Rattle.std.specs.Prelude.{◌≡◌, List, ℕ, zero, suc, ◌+◌, ◌-◌, ◌<◌, set}
use Rattle.std.proofs.Common.{add-one, arith, eq-eqb, ne_eqb}
use Rattle.bitset.specs.Mask.{with_bit}
use Rattle.plan.specs.Lists.{nat_at}
use Rattle.plan.specs.declared.Links.{Links}
use Rattle.plan.specs.declared.Nodes.{Nodes}
use Rattle.reach.specs.Table.{marked, added_to, added_to_operands, followed_down, LinksReady, OperandsReady}

-- ---- the numbers that a link and a node name are places of the table
pub link_inside : {links : Links} {count : ℕ} → LinksReady links count → (e : ℕ) → e < count
    → (nat_at links.targets e < 64) × (nat_at links.sources e < 64)
link_inside l e h = (omega (arith, l.target e h), l.source e h)

pub operands_inside : {nodes : Nodes} {base k : ℕ} → OperandsReady nodes base k → (j : ℕ) → j < k
    → (nat_at nodes.a j < 64) × (nat_at nodes.b j < 64)
operands_inside w j h = (omega (arith, w.room, w.a-below j h), omega (arith, w.room, w.b-below j h))

-- ---- turns: one more bit set
pub marked_more : (place bit : ℕ → ℕ) (table so_far : List ℕ) (e v : ℕ) → so_far ≡ marked place bit table e
    → v ≡ with_bit (nat_at so_far (place e)) (bit e) → set so_far (place e) v ≡ marked place bit table (e + 1)
unfolding marked
marked_more place bit table so_far e v p q = rw (q, p, add-one)

module _ (nodes : Nodes) (base : ℕ) (table : List ℕ) (j : ℕ) where
  -- kind 2 uses its left operand only
  pub operands-left : nat_at nodes.kinds j ≡ 2 → added_to table (nat_at nodes.a j) (nat_at table (base + j)) ≡ added_to_operands nodes base j table
  unfolding added_to_operands
  operands-left e = rw (eq-eqb (nat_at nodes.kinds j) 2 e)

  pub operands_both : (nat_at nodes.kinds j ≡ 2 → ⊥)
      → added_to (added_to table (nat_at nodes.a j) (nat_at table (base + j))) (nat_at nodes.b j) (nat_at table (base + j))
      ≡ added_to_operands nodes base j table
  unfolding added_to_operands
  operands_both e = rw (ne_eqb (nat_at nodes.kinds j) 2 e)

-- the highest node first, then those below it
pub followed_more : (nodes : Nodes) (base : ℕ) (table : List ℕ) (j : ℕ) → 0 < j
    → followed_down nodes base (j - 1) (added_to_operands nodes base (j - 1) table) ≡ followed_down nodes base j table
unfolding followed_down
followed_more nodes base table zero h = absurd (omega arith)
followed_more nodes base table (suc j) h = let d : suc j - 1 ≡ j = omega arith in rw d
