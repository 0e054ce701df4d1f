-- Laws: of timed entries by their columns: which set a number, what to, and the next of them. Assumes nothing.
use Rattle.std.specs.Prelude.{◌≡◌, Bool, ◌&&◌, ◌||◌, List, ℤ}
use Rattle.std.proofs.Math.Path.{refl, ap}
use Rattle.std.proofs.Common.{sym, ◌∙◌, true≢false, arith, ltb-true, lt-ltb}
use Rattle.std.proofs.Math.Bool.{true, false, cond, false≢true}
use Prim.Native.Nat.{ℕ, zero, suc, ◌≤◌, ◌<◌}
use Rattle.std.proofs.Math.Dec.{ltb}
use Rattle.plan.specs.Numbers.{never}
use Rattle.plan.specs.Lists.{nat_at, int_at, some}
use Rattle.plan.specs.Rules.{AscendsAt}
use Rattle.plan.proofs.Laws.TestMeanings.{Means, means_false, ltb_means, eqb_means, both}
use Rattle.plan.proofs.Laws.Searches.{First, first, first_unique, or-false}
use Rattle.machine.specs.Entries.{sets, value_then, next_entry, entry_tick}
use Rattle.machine.proofs.Laws.Ascending.{entry_unique}

-- ---- which they are
module _ (ticks numbers : List ℕ) (t j : ℕ) where
  pub sets_means : (e : ℕ) → Means (sets ticks numbers t j e) ((nat_at ticks e ≡ t) × (nat_at numbers e ≡ j))
  unfolding sets
  sets_means e = both (eqb_means (nat_at ticks e) t) (eqb_means (nat_at numbers e) j)

-- ---- what they set
module _ (ticks numbers : List ℕ) (values : List ℤ) (t j : ℕ) (before : ℤ) where
  abbrev set_to : ℕ → ℤ
  set_to = value_then ticks numbers values t j before

  -- what holds of each value that is set, and of `before` where none is
  pub set_holds : (P : ℤ → Type 0) (k : ℕ) → ((e : ℕ) → e < k → sets ticks numbers t j e ≡ true → P (int_at values e))
      → (some (sets ticks numbers t j) k ≡ false → P before) → P (set_to k)
  unfolding some value_then
  set_holds P zero holds none = none refl
  set_holds P (suc k) holds none = go (sets ticks numbers t j k) refl none (set_holds P k (λ e l. holds e (omega arith)))
    where
      go : (s : Bool) → sets ticks numbers t j k ≡ s → ((some (sets ticks numbers t j) k || s) ≡ false → P before)
          → ((some (sets ticks numbers t j) k ≡ false → P before) → P (set_to k)) → P (cond s (int_at values k) (set_to k))
      go true e none ih = holds k (omega arith) e
      go false e none ih = ih (λ f. none (rw f))

  -- none of them
  pub set-none : (k : ℕ) → some (sets ticks numbers t j) k ≡ false → set_to k ≡ before
  unfolding some value_then
  set-none zero f = refl
  set-none (suc k) f = let b = or-false (some (sets ticks numbers t j) k) _ f in rw b.1 (set-none k b.0)

  -- in order, an entry is the only one of its tick and number
  module _ (count : ℕ) (ascends : (e : ℕ) → e < count → AscendsAt ticks numbers e) where
    sets_once : (e : ℕ) → e < count → nat_at ticks e ≡ t → nat_at numbers e ≡ j → (k : ℕ) → k < count → Means (sets ticks numbers t j k) (k ≡ e)
    sets_once e h tick number k l = (
      λ s. let m = (sets_means ticks numbers t j k).0 s in entry_unique ticks numbers count ascends k e l h (m.0 ∙ sym tick) (m.1 ∙ sym number),
      λ q. (sets_means ticks numbers t j k).1 (ap (nat_at ticks) q ∙ tick, ap (nat_at numbers) q ∙ number),
    )

    pub set_of : (e : ℕ) → e < count → nat_at ticks e ≡ t → nat_at numbers e ≡ j → set_to count ≡ int_at values e
    unfolding value_then
    set_of e h tick number = up_to count (omega arith) h
      where
        up_to : (k : ℕ) → k ≤ count → e < k → set_to k ≡ int_at values e
        up_to zero l b = absurd (omega arith)
        up_to (suc k) l b = go (sets ticks numbers t j k) (sets_once e h tick number k l) (up_to k (omega arith))
          where
            go : (s : Bool) → Means s (k ≡ e) → (e < k → set_to k ≡ int_at values e) → cond s (int_at values k) (set_to k) ≡ int_at values e
            go true m ih = ap (int_at values) (m.0 refl)
            go false m ih = let other : k ≡ e → ⊥ = λ q. false≢true (m.1 q) in ih (omega arith)

-- ---- the tick of the next one
module _ (ticks : List ℕ) (count e : ℕ) where
  pub entry-below : e < count → entry_tick ticks count e ≤ nat_at ticks e
  unfolding entry_tick
  entry-below h = rw (lt-ltb e count h) (omega arith)

  pub entry-above : (c : ℕ) → c ≤ never → (e < count → c ≤ nat_at ticks e) → c ≤ entry_tick ticks count e
  unfolding entry_tick
  entry-above c h g = go (ltb e count) refl
    where
      go : (b : Bool) → ltb e count ≡ b → c ≤ cond b (nat_at ticks e) never
      go true t = g (ltb-true e count t)
      go false t = h

  -- a tick below never is an entry's
  pub entry-one : entry_tick ticks count e < never → (e < count) × (nat_at ticks e ≡ entry_tick ticks count e)
  unfolding entry_tick
  entry-one = go (ltb e count) refl
    where
      go : (b : Bool) → ltb e count ≡ b → cond b (nat_at ticks e) never < never → (e < count) × (nat_at ticks e ≡ cond b (nat_at ticks e) never)
      go true t l = (ltb-true e count t, refl)
      go false t l = absurd (omega arith)

-- ---- the next one
module _ (ticks : List ℕ) (counting : ℕ → Bool) (count c : ℕ) where
  abbrev next : ℕ
  next = next_entry ticks counting count c

  abbrev is_later : ℕ → Bool
  is_later e = ltb c (nat_at ticks e) && counting e

  abbrev IsLater : ℕ → Type 0
  IsLater e = (c < nat_at ticks e) × (counting e ≡ true)

  later_means : (e : ℕ) → Means (is_later e) (IsLater e)
  later_means e = both (ltb_means c (nat_at ticks e)) (λ h. h, λ h. h)

  found : First is_later 0 count next
  unfolding next_entry
  found = first is_later 0 count

  pub next-earlier : (e : ℕ) → e < next → IsLater e → ⊥
  next-earlier e h n = true≢false (sym ((later_means e).1 n) ∙ found.earlier e (omega arith) h)

  pub next-later : next < count → IsLater next
  next-later h = (later_means next).0 (found.passes (omega arith))

  pub next-most : next ≤ count
  next-most = omega (arith, found.most)

  -- these determine it
  pub next_is : (e : ℕ) → e ≤ count → ((d : ℕ) → d < e → IsLater d → ⊥) → (e < count → IsLater e) → e ≡ next
  unfolding next_entry
  next_is e h before this =
      first_unique is_later 0 count e
      (record {
        from = omega arith;
        most = omega arith;
        earlier = λ d l k. means_false (later_means d).0 (before d k);
        passes = λ l. (later_means e).1 (this (omega arith));
      })

  -- its tick lies above the clock
  pub next-above : c < never → c < entry_tick ticks count next
  next-above h = entry-above ticks count next (suc c) h (λ l. (next-later l).0)
