-- Laws: what stands in the entries of a set of sources: after a bit is set, after an entry is added, and after a node's entry is handed
-- down, which is the same as looking at one node more. Assumes nothing.
use Rattle.std.specs.Prelude.{◌≡◌, Bool, cond, not, ◌&&◌, ◌||◌, set, replicate}
use Rattle.std.proofs.Math.Path.{refl, sym, ap}
use Rattle.std.proofs.Common.{◌∙◌, arith, get_or-set_same, get_or-set_other, eq-eqb, ne_eqb}
use Rattle.std.proofs.Math.Bool.{true, false, or-false, or_assoc, and-false, and-or_distrib_left, and-or_distrib_right}
use mathlib.Core.List.{List}
use Prim.Native.Nat.{ℕ, zero, suc, ◌+◌, ◌<◌}
use Rattle.std.proofs.Math.Dec.{eqb}
use Rattle.std.proofs.Math.ListN.{length, length-set}
use Rattle.std.proofs.lemmas.List.{get_or-replicate}
use Rattle.bitset.specs.Mask.{has, each, union}
use Rattle.bitset.proofs.Laws.Bits.{has-none, has_or, has_with}
use Rattle.plan.specs.Lists.{nat_at, some}
use Rattle.plan.specs.declared.Nodes.{Nodes}
use Rattle.reach.specs.Table.{marked, added_to, added_to_operands, entries_of, OperandsReady}
use Rattle.reach.proofs.Laws.Some.{some_ext, some-none, some_also}

-- bit b stands in the entry of a source that is in `sources`
unfoldable pub in_entries : List ℕ → (ℕ → Bool) → ℕ → Bool
in_entries table sources b = some (λ i. sources i && has (nat_at table i) b) 64

-- the entries joined
pub entries_of-has : (table : List ℕ) (changed b : ℕ) → has (entries_of table changed) b ≡ in_entries table (has changed) b
unfolding entries_of in_entries each some
entries_of-has table changed b = below 64
  where
    join : ℕ → ℕ → ℕ
    join i entries = union entries (nat_at table i)

    more : (n : ℕ) (t : Bool) (entries : ℕ) {a : Bool} → has entries b ≡ a
        → has (cond t (join n entries) entries) b ≡ (a || (t && has (nat_at table n) b))
    more n true entries e = has_or entries (nat_at table n) b ∙ ap (λ x. x || has (nat_at table n) b) e
    more n false entries {a} e = e ∙ sym (or-false a)

    below : (n : ℕ) → has (each join (has changed) n 0) b ≡ some (λ i. has changed i && has (nat_at table i) b) n
    below zero = has-none b
    below (suc n) = more n (has changed n) (each join (has changed) n 0) (below n)

pub entries_ext : (table : List ℕ) (f g : ℕ → Bool) (b : ℕ) → ((i : ℕ) → f i ≡ g i) → in_entries table f b ≡ in_entries table g b
unfolding in_entries
entries_ext table f g b e = some_ext _ _ 64 (λ i h. ap (λ x. x && has (nat_at table i) b) (e i))

pub entries_none : (sources : ℕ → Bool) (b : ℕ) → in_entries (replicate 64 0) sources b ≡ false
unfolding in_entries
entries_none sources b =
    some-none _ 64 (λ i h. rw (get_or-replicate {A = ℕ} 64 i 0 0 h, has-none b) (and-false (sources i)))

-- an entry stored anew, which has the bit also if c
stored : (table : List ℕ) (sources : ℕ → Bool) (b a v : ℕ) (c : Bool) → length table ≡ 64 → a < 64 → has v b ≡ (has (nat_at table a) b || c)
    → in_entries (set table a v) sources b ≡ (in_entries table sources b || (sources a && c))
unfolding in_entries
stored table sources b a v c len h e =
    some_also _ (λ i. sources i && has (nat_at table i) b) (sources a && c) a 64 h
    (rw (get_or-set_same table a v 0 (omega arith), e) (and-or_distrib_left (sources a) (has (nat_at table a) b) c))
    (λ i ne. rw (get_or-set_other table a i v 0 ne))

module _ (place bit : ℕ → ℕ) (table : List ℕ) where
  pub marked-length : (e : ℕ) → length (marked place bit table e) ≡ length table
  unfolding marked
  marked-length zero = refl
  marked-length (suc e) = length-set (marked place bit table e) (place e) _ ∙ marked-length e

  pub marked-entries : (sources : ℕ → Bool) (b e : ℕ) → length table ≡ 64 → ((f : ℕ) → f < e → place f < 64)
      → in_entries (marked place bit table e) sources b ≡ (in_entries table sources b || some (λ f. sources (place f) && eqb b (bit f)) e)
  unfolding marked some
  marked-entries sources b zero len h = sym (or-false (in_entries table sources b))
  marked-entries sources b (suc e) len h =
      stored (marked place bit table e) sources b (place e) _ (eqb b (bit e)) (marked-length e ∙ len) (h e (omega arith))
      (has_with (nat_at (marked place bit table e) (place e)) (bit e) b)
      ∙ ap (λ x. x || (sources (place e) && eqb b (bit e))) (marked-entries sources b e len (λ f l. h f (omega arith)))
      ∙ or_assoc (in_entries table sources b) (some (λ f. sources (place f) && eqb b (bit f)) e) (sources (place e) && eqb b (bit e))

added_entries : (table : List ℕ) (sources : ℕ → Bool) (b a entry : ℕ) → length table ≡ 64 → a < 64
    → in_entries (added_to table a entry) sources b ≡ (in_entries table sources b || (sources a && has entry b))
added_entries table sources b a entry len h = stored table sources b a _ (has entry b) len h (has_or (nat_at table a) entry b)

-- a source more, if c
with_source : (table : List ℕ) (sources : ℕ → Bool) (b a : ℕ) (c : Bool) → a < 64 → sources a ≡ false
    → in_entries table (λ i. cond (eqb i a) c (sources i)) b ≡ (in_entries table sources b || (c && has (nat_at table a) b))
unfolding in_entries
with_source table sources b a c h out =
    some_also _ (λ i. sources i && has (nat_at table i) b) (c && has (nat_at table a) b) a 64 h (rw (eq-eqb a a refl, out)) (λ i ne. rw (ne_eqb i a ne))

-- ---- a node's entry added to those of the operands that it uses
module _ (nodes : Nodes) (base : ℕ) where
  pub operands-length : (j : ℕ) (table : List ℕ) → length (added_to_operands nodes base j table) ≡ length table
  unfolding added_to_operands
  operands-length j table = go (eqb (nat_at nodes.kinds j) 2) _ _ (simp length-set) (simp length-set)
    where
      go : (two : Bool) (x y : List ℕ) → length x ≡ length table → length y ≡ length table → length (cond two x y) ≡ length table
      go true x y e f = e
      go false x y e f = f

  -- the same as looking at node j too: it is one of the sources if an operand that it uses is
  pub operands-entries : (k : ℕ) → OperandsReady nodes base k
      → (table : List ℕ) (sources : ℕ → Bool) (bit j : ℕ) → length table ≡ 64 → j < k → sources (base + j) ≡ false
      → in_entries (added_to_operands nodes base j table) sources bit
      ≡ in_entries table
      (λ i. cond (eqb i (base + j)) (sources (nat_at nodes.a j) || (not (eqb (nat_at nodes.kinds j) 2) && sources (nat_at nodes.b j))) (sources i)) bit
  unfolding added_to_operands
  operands-entries k wired table sources bit j len h out =
      let l = nat_at nodes.a j in let r = nat_at nodes.b j in let entry = nat_at table (base + j) in let left = added_to table l entry in
      let one = added_entries table sources bit l entry len (omega (arith, wired.room, wired.a-below j h)) in
      let two = added_entries left sources bit r entry (length-set table l _ ∙ len) (omega (arith, wired.room, wired.b-below j h)) in
      go (eqb (nat_at nodes.kinds j) 2) left (added_to left r entry) (in_entries table sources bit) (sources l) (sources r) (has entry bit) one
      (two ∙ ap (λ x. x || (sources r && has entry bit)) one)
      ∙ sym (with_source table sources bit (base + j) _ (omega (arith, wired.room)) out)
    where
      joins : (a l r e : Bool) → ((a || (l && e)) || (r && e)) ≡ (a || ((l || r) && e))
      joins a l r e = or_assoc a (l && e) (r && e) ∙ ap (λ x. a || x) (sym (and-or_distrib_right l r e))

      go : (two : Bool) (x y : List ℕ) (a l r e : Bool) → in_entries x sources bit ≡ (a || (l && e))
          → in_entries y sources bit ≡ ((a || (l && e)) || (r && e)) → in_entries (cond two x y) sources bit ≡ (a || ((l || (not two && r)) && e))
      go true x y a l r e one two = one ∙ ap (λ z. a || (z && e)) (sym (or-false l))
      go false x y a l r e one two = two ∙ joins a l r e
