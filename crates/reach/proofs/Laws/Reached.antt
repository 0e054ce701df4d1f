-- Laws: the table is document 01's reach: the entries of the sources that change, joined, have the reached integrators in their low half,
-- and in their high half the nodes that depend on a change. Assumes nothing.
use Rattle.std.specs.Prelude.{◌≡◌, Bool, true, false, ◌&&◌, ◌||◌, List, ltb, eqb, length, replicate}
use Rattle.std.proofs.Math.Path.{refl}
use Rattle.std.proofs.Common.{sym, ap, ap₂, ◌∙◌, mod-lt, arith, pow_pos}
use Rattle.std.proofs.Math.Bool.{or-false, and-false, and-true}
use Prim.Native.Nat.{ℕ, zero, suc, ◌+◌, ◌/◌, ◌%◌, ◌^◌, ◌≤◌, ◌<◌}
use Rattle.std.proofs.lemmas.List.{length-replicate}
use borrow.Author.Tests.{eqb-true, eqb-false, eq-eqb, ne_eqb, ltb-true, ltb-false, lt-ltb, le-ltb}
use Rattle.bitset.specs.Mask.{has, mask_of, union_shifted}
use Rattle.bitset.proofs.Laws.Bits.{has-high, has_shr, has-mask_of, mask_of_lt, mask_of_ext}
use Rattle.plan.specs.Lists.{nat_at, some}
use Rattle.plan.specs.Rules.{PlanRules}
use Rattle.plan.proofs.Laws.CountLimits.{count-limits}
use Rattle.plan.specs.declared.Plan.{Plan}
use Rattle.machine.specs.Reach.{is_commanded, changes_by, depends_with, link_reaches, reached}
use Rattle.reach.specs.Table.{link_entries, own_entries, followed_down, reach_table, entries_of, LinksReady, OperandsReady, TableReady}
use Rattle.reach.proofs.Laws.Some.{some_ext, some-none, some_only}
use Rattle.reach.proofs.Laws.Masks.{mask_is, has-low, joined_is}
use Rattle.reach.proofs.Laws.Entries.{in_entries, entries_of-has, entries_ext, entries_none, marked-length, marked-entries}
use Rattle.reach.proofs.Laws.Entries.{operands-length, operands-entries}

-- numbers that differ
other : (c : Bool) (x y : ℕ) → (x ≡ y → ⊥) → (c && eqb x y) ≡ false
other c x y ne = rw (ne_eqb x y ne) (and-false c)

-- the two sides of a comparison, and of `&&`, exchanged
exchanged : (c : Bool) (x y : ℕ) → (c && eqb x y) ≡ (eqb y x && c)
exchanged c x y = go (eqb x y) refl
  where
    go : (b : Bool) → eqb x y ≡ b → (c && b) ≡ (eqb y x && c)
    go true e = rw (eq-eqb y x (sym (eqb-true x y e))) (and-true c)
    go false e = rw (ne_eqb y x (λ q. eqb-false x y e (sym q))) (and-false c)

module _ (p : Plan) (rules : PlanRules p) where
  -- ---- what `reach_table` asks; kind 2's B is 0, and there is an integrator 0
  pub table_wired : OperandsReady p.nodes (p.counts.n + p.counts.m) p.counts.k
  table_wired =
      record {
        room = omega (arith, count-limits p rules.counts);
        a-below = λ j h. (rules.nodes j h).a-below;
        b-below = λ j h. below j h (eqb (nat_at p.nodes.kinds j) 2) refl;
      }
    where
      below : (j : ℕ) → j < p.counts.k → (two : Bool) → eqb (nat_at p.nodes.kinds j) 2 ≡ two → nat_at p.nodes.b j < p.counts.n + p.counts.m + j
      below j h true e = omega (arith, (count-limits p rules.counts).n-least, (rules.nodes j h).unused (eqb-true (nat_at p.nodes.kinds j) 2 e))
      below j h false e = (rules.nodes j h).b-below (eqb-false (nat_at p.nodes.kinds j) 2 e)

  pub table_linked : LinksReady p.links p.counts.links
  table_linked =
      let counts = count-limits p rules.counts in
      record {
        few = counts.links;
        target = λ e h. omega (arith, counts, (rules.links e h).target);
        source = λ e h. omega (arith, counts, (rules.links e h).source);
      }

  pub table_ready : TableReady p
  table_ready = record { few = (count-limits p rules.counts).k; operands = table_wired; links = table_linked }

  -- ---- before any entry is added to its operands'
  abbrev own : List ℕ
  own = own_entries (p.counts.n + p.counts.m) (link_entries p.links p.counts.links) p.counts.k

  linked_length : length (link_entries p.links p.counts.links) ≡ 64
  linked_length = marked-length (nat_at p.links.sources) (nat_at p.links.targets) (replicate 64 0) p.counts.links ∙ length-replicate {A = ℕ} 64 0

  own-length : length own ≡ 64
  own-length = marked-length (λ j. p.counts.n + p.counts.m + j) (λ j. 32 + j) (link_entries p.links p.counts.links) p.counts.k ∙ linked_length

  module _ (chosen : ℕ → Bool) where
    abbrev link_has : ℕ → ℕ → Bool
    link_has b e = chosen (nat_at p.links.sources e) && eqb b (nat_at p.links.targets e)

    abbrev node_has : ℕ → ℕ → Bool
    node_has b j = chosen (p.counts.n + p.counts.m + j) && eqb b (32 + j)

    -- a bit is a link's or a node's
    own-has : (b : ℕ) → in_entries own chosen b ≡ (some (link_has b) p.counts.links || some (node_has b) p.counts.k)
    own-has b =
        marked-entries (λ j. p.counts.n + p.counts.m + j) (λ j. 32 + j) (link_entries p.links p.counts.links) chosen b p.counts.k linked_length
        (λ j h. omega (arith, table_wired.room))
        ∙ ap (λ x. x || some (node_has b) p.counts.k)
        (marked-entries (nat_at p.links.sources) (nat_at p.links.targets) (replicate 64 0) chosen b p.counts.links (length-replicate {A = ℕ} 64 0)
        table_linked.source ∙ ap (λ x. x || some (link_has b) p.counts.links) (entries_none chosen b))

    -- an integrator's: a link of its own names a chosen source
    own-low : (b : ℕ) → b < 32 → in_entries own chosen b ≡ some (λ e. eqb (nat_at p.links.targets e) b && chosen (nat_at p.links.sources e)) p.counts.links
    own-low b h =
        own-has b
        ∙ ap₂ ◌||◌ (some_ext _ _ p.counts.links (λ e l. exchanged (chosen (nat_at p.links.sources e)) b (nat_at p.links.targets e)))
        (some-none _ p.counts.k (λ j l. other (chosen (p.counts.n + p.counts.m + j)) b (32 + j) (λ e. omega arith)))
        ∙ or-false _

    own-high : (j : ℕ) → in_entries own chosen (32 + j) ≡ some (node_has (32 + j)) p.counts.k
    own-high j =
        own-has (32 + j)
        ∙ ap (λ x. x || some (node_has (32 + j)) p.counts.k)
        (some-none _ p.counts.links
        (λ e h. other (chosen (nat_at p.links.sources e)) (32 + j) (nat_at p.links.targets e) (λ q. omega (arith, table_linked.target e h))))

    -- a node's: it is chosen
    own-node : (j : ℕ) → j < p.counts.k → in_entries own chosen (32 + j) ≡ chosen (p.counts.n + p.counts.m + j)
    own-node j h =
        own-high j
        ∙ some_only (node_has (32 + j)) j p.counts.k h (λ i ne. other (chosen (p.counts.n + p.counts.m + i)) (32 + j) (32 + i) (λ e. ne (omega arith)))
        ∙ rw (eq-eqb (32 + j) (32 + j) refl) (and-true (chosen (p.counts.n + p.counts.m + j)))

    own_past : (j : ℕ) → p.counts.k ≤ j → in_entries own chosen (32 + j) ≡ false
    own_past j h =
        own-high j ∙ some-none _ p.counts.k (λ i l. other (chosen (p.counts.n + p.counts.m + i)) (32 + j) (32 + i) (λ e. omega arith))

  -- ---- over any set of integrators and inputs that change
  module _ (changed : ℕ → Bool) (inside : (i : ℕ) → p.counts.n + p.counts.m ≤ i → changed i ≡ false) where
    abbrev depends : ℕ → ℕ → Bool
    depends = depends_with p changed

    -- a node that is not looked at yet
    not_yet : (j i : ℕ) → p.counts.n + p.counts.m + j ≤ i → depends j i ≡ false
    unfolding depends_with
    not_yet zero i h = inside i (omega arith)
    not_yet (suc j) i h = rw (ne_eqb i (p.counts.n + p.counts.m + j) (λ e. omega arith)) (not_yet j i (omega arith))

    -- with j nodes' entries added to their operands', the sources that change have what all that depend on them have without
    followed_has : (j b : ℕ) (table : List ℕ) → j ≤ p.counts.k → length table ≡ 64
        → in_entries (followed_down p.nodes (p.counts.n + p.counts.m) j table) changed b
        ≡ in_entries table (depends j) b
    unfolding followed_down depends_with
    followed_has zero b table h len = refl
    followed_has (suc j) b table h len =
        followed_has j b _ (omega arith) (operands-length p.nodes (p.counts.n + p.counts.m) j table ∙ len)
        ∙ operands-entries p.nodes (p.counts.n + p.counts.m) p.counts.k table_wired table (depends j) b j len h
        (not_yet j (p.counts.n + p.counts.m + j) (omega arith))

    not_reached : (i : ℕ) → p.counts.n ≤ i → reached p changed i ≡ false
    unfolding reached link_reaches
    not_reached i h = some-none _ p.counts.links (λ e l. rw (ne_eqb (nat_at p.links.targets e) i (λ q. omega (arith, (rules.links e l).target))))

    -- ---- as a mask
    module _ (mask : ℕ) (all : mask ≡ mask_of changed (p.counts.n + p.counts.m)) where
      abbrev entries : ℕ
      entries = entries_of (reach_table p) mask

      mask_has : (i : ℕ) → has mask i ≡ changed i
      mask_has i = rw all (go (ltb i (p.counts.n + p.counts.m)) refl)
        where
          go : (b : Bool) → ltb i (p.counts.n + p.counts.m) ≡ b → has (mask_of changed (p.counts.n + p.counts.m)) i ≡ changed i
          go true e = has-mask_of changed (p.counts.n + p.counts.m) i (ltb-true i (p.counts.n + p.counts.m) e)
          go false e =
              let h = ltb-false i (p.counts.n + p.counts.m) e in
              has-high _ (p.counts.n + p.counts.m) i (mask_of_lt changed (p.counts.n + p.counts.m)) h ∙ sym (inside i h)

      entries-has : (b : ℕ) → has entries b ≡ in_entries own (depends p.counts.k) b
      unfolding reach_table
      entries-has b =
          entries_of-has (reach_table p) mask b ∙ entries_ext (reach_table p) (has mask) changed b mask_has
          ∙ followed_has p.counts.k b own (omega arith) own-length

      low-has : (i : ℕ) → i < 32 → has (entries % 2 ^ 32) i ≡ reached p changed i
      unfolding reached link_reaches
      low-has i h = has-low entries 32 i h ∙ entries-has i ∙ own-low (depends p.counts.k) i h

      pub reached_mask : entries_of (reach_table p) mask % 2 ^ 32 ≡ mask_of (reached p changed) p.counts.n
      reached_mask =
          mask_is (entries % 2 ^ 32) p.counts.n (reached p changed) (λ i h. low-has i (omega (arith, (count-limits p rules.counts).n)))
          (λ i h. above i h (ltb i 32) refl)
        where
          above : (i : ℕ) → p.counts.n ≤ i → (b : Bool) → ltb i 32 ≡ b → has (entries % 2 ^ 32) i ≡ false
          above i h true e = low-has i (ltb-true i 32 e) ∙ not_reached i h
          above i h false e = has-high (entries % 2 ^ 32) 32 i (mod-lt entries (pow_pos 32)) (ltb-false i 32 e)

      high-has : (j : ℕ) → has (entries / 2 ^ 32) j ≡ in_entries own (depends p.counts.k) (32 + j)
      high-has j = has_shr entries 32 j ∙ entries-has (32 + j)

      pub dependent_mask : entries_of (reach_table p) mask / 2 ^ 32 ≡ mask_of (λ j. depends_with p changed p.counts.k (p.counts.n + p.counts.m + j)) p.counts.k
      dependent_mask =
          mask_is (entries / 2 ^ 32) p.counts.k (λ j. depends p.counts.k (p.counts.n + p.counts.m + j))
          (λ j h. high-has j ∙ own-node (depends p.counts.k) j h) (λ j h. high-has j ∙ own_past (depends p.counts.k) j h)

-- ---- what the engine hands over: the woken integrators and the commanded inputs, joined
module _ (p : Plan) (t : ℕ) (awake : ℕ → Bool) where
  pub changes_inside : (i : ℕ) → p.counts.n + p.counts.m ≤ i → changes_by p t awake i ≡ false
  unfolding changes_by
  changes_inside i h = rw (le-ltb i p.counts.n (omega arith), le-ltb i (p.counts.n + p.counts.m) h)

  pub joined_changes : (woken commanded : ℕ) → woken ≡ mask_of awake p.counts.n → commanded ≡ mask_of (is_commanded p t) p.counts.m
      → union_shifted woken commanded p.counts.n ≡ mask_of (changes_by p t awake) (p.counts.n + p.counts.m)
  unfolding changes_by
  joined_changes woken commanded e f =
      rw (e, f)
      (joined_is awake (is_commanded p t) p.counts.n p.counts.m
      ∙ mask_of_ext _ _ (p.counts.n + p.counts.m) (λ i h. rw (lt-ltb i (p.counts.n + p.counts.m) h)))
