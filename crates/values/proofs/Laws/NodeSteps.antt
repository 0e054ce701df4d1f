-- Laws: node j worked out: its own entry of the values is stored and the others stay, and no value goes beyond ±M. Assumes nothing.
use Rattle.std.specs.Prelude.{◌≡◌, refl, Bool, true, false, List, ℕ, ◌+◌, ◌≤◌, ◌<◌, ltb, eqb, ℤ, pos, length, get_or, set}
use Rattle.std.proofs.Math.ListN.{length-set}
use Rattle.std.proofs.Math.Seq.{get_or-set_same, get_or-set_other, set_out}
use Rattle.std.proofs.Common.{ltb-true, ltb-false, eqb-true}
use Rattle.std.proofs.lemmas.Bool.{eqb-false}
use Rattle.integers.specs.Parts.{∣◌∣}
use Rattle.plan.specs.Numbers.{M}
use Rattle.plan.specs.Lists.{int_at}
use Rattle.plan.specs.declared.Nodes.{Nodes}
use Rattle.machine.proofs.Laws.Sizes.{node-size}
use Rattle.values.specs.Sources.{node_from, node_step, NodesReady}

-- what holds of every entry, and of what is stored, holds of every entry then
set_holds : {A : Type 0} (P : A → Type 0) (xs : List A) (n : ℕ) (v z : A) → P v → ((i : ℕ) → P (get_or xs i z))
    → (i : ℕ) → P (get_or (set xs n v) i z)
set_holds P xs n v z new old i = go (eqb i n) refl (ltb n (length xs)) refl
  where
    go : (b : Bool) → eqb i n ≡ b → (d : Bool) → ltb n (length xs) ≡ d → P (get_or (set xs n v) i z)
    go true e true f = rw (eqb-true i n e, get_or-set_same xs n v z (ltb-true n (length xs) f)) new
    go true e false f = rw (set_out xs n v (ltb-false n (length xs) f)) (old i)
    go false e d f = rw (get_or-set_other xs n i v z (eqb-false i n e)) (old i)

module _ (nodes : Nodes) (base j : ℕ) (values : List ℤ) where
  abbrev then : List ℤ
  then = node_step nodes base j values

  pub step-length : length then ≡ length values
  unfolding node_step
  step-length = length-set values (base + j) _

  pub step-own : base + j < length values → int_at then (base + j) ≡ node_from nodes base j values
  unfolding node_step
  step-own h = get_or-set_same values (base + j) _ (pos 0) h

  pub step_other : (i : ℕ) → (i ≡ base + j → ⊥) → int_at then i ≡ int_at values i
  unfolding node_step
  step_other i n = get_or-set_other values (base + j) i _ (pos 0) n

  pub step-ready : (k : ℕ) → j < k → NodesReady nodes values base k → NodesReady nodes then base k
  unfolding node_step node_from
  step-ready k h r =
      record {
        few = r.few;
        room = r.room;
        a-below = r.a-below;
        b-below = r.b-below;
        low = r.low;
        high = r.high;
        sized = set_holds (λ v. ∣ v ∣ ≤ M) values (base + j) _ (pos 0) (node-size _ _ _ _ _ (r.low j h) (r.high j h)) r.sized;
      }
