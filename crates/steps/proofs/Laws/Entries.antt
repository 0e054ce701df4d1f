-- Laws: the entries of a tick, obeyed one after the other from the next one on, over any columns whose ticks and numbers ascend: which
-- numbers they set, what to, and the next entry. Assumes nothing.
use Rattle.std.specs.Prelude.{◌≡◌, Bool, cond, List, ℤ, pos, length, set}
use Rattle.std.proofs.Math.Path.{refl, sym}
use Rattle.std.proofs.Common.{ap, ◌∙◌, ⊎_elim, add-zero, add-suc, get_or-set_same, pow_pos}
use Rattle.std.proofs.Math.Bool.{true, false, or-false}
use Prim.Native.Nat.{ℕ, zero, suc, ◌+◌, ◌-◌, ◌^◌, ◌≤◌, ◌<◌}
use Rattle.std.proofs.Math.Numerals.{add-one}
use native.Mathlib.Omega.{arith}
use Rattle.std.proofs.Math.Dec.{eqb}
use Rattle.std.proofs.Math.ListN.{length-set}
use Rattle.std.proofs.Math.Seq.{get_or-set_other}
use borrow.Author.Tests.{eqb-true, eqb-false, eq-eqb, ne_eqb}
use Rattle.bitset.specs.Mask.{has, mask_of}
use Rattle.bitset.proofs.Laws.Bits.{has-none, has_with, with_lt, mask_ext, mask_of_lt, has-mask_of}
use Rattle.plan.specs.Numbers.{source_width}
use Rattle.plan.specs.Lists.{nat_at, int_at, some}
use Rattle.plan.specs.Rules.{AscendsAt}
use Rattle.plan.proofs.Laws.TestMeanings.{means_false}
use Rattle.plan.proofs.Laws.Searches.{below_suc}
use Rattle.machine.specs.Entries.{sets, value_then, next_entry}
use Rattle.machine.proofs.Laws.Entries.{sets_means, next-earlier, next-most, next_is}
use Rattle.machine.proofs.Laws.Ascending.{ascending}
use Rattle.steps.specs.Entries.{AfterEntries, after_entries, after_entry, after_entries_from}

-- ---- lists and tests
set-entry : (xs : List ℤ) (k i : ℕ) (v : ℤ) → k < length xs → int_at (set xs k v) i ≡ cond (eqb k i) v (int_at xs i)
set-entry xs k i v h = go (eqb k i) refl
  where
    go : (b : Bool) → eqb k i ≡ b → int_at (set xs k v) i ≡ cond b v (int_at xs i)
    go true e = rw (← eqb-true k i e) (get_or-set_same xs k v (pos 0) h)
    go false e = get_or-set_other xs k i v (pos 0) (λ q. eqb-false k i e (sym q))

-- a comparison by two equivalent equations
eqb_same : (a b c d : ℕ) → (a ≡ b → c ≡ d) → (c ≡ d → a ≡ b) → eqb a b ≡ eqb c d
eqb_same a b c d f g = go (eqb c d) refl
  where
    go : (s : Bool) → eqb c d ≡ s → eqb a b ≡ s
    go true e = eq-eqb a b (g (eqb-true c d e))
    go false e = ne_eqb a b (λ q. eqb-false c d e (f q))

-- what no number from a to b changes
unchanged : {A : Type 0} (f : ℕ → A) (a b : ℕ) → a ≤ b → ((d : ℕ) → a ≤ d → d < b → f (suc d) ≡ f d) → f b ≡ f a
unchanged f a b h e = let sum : b ≡ a + (b - a) = omega arith in rw sum (up_to (b - a) (omega arith))
  where
    up_to : (k : ℕ) → a + k ≤ b → f (a + k) ≡ f a
    up_to zero l = rw add-zero
    up_to (suc k) l = rw add-suc (e (a + k) (omega arith) (omega arith) ∙ up_to k (omega arith))

-- ---- what is asked, and what is left
-- of the columns: the entries ascend by tick and number, and each number below `most` has its value in the table of sources
pub record EntryColumns (first most : ℕ) (ticks numbers : List ℕ) (count : ℕ) : Type 0 where
  pub ascends : (e : ℕ) → e < count → AscendsAt ticks numbers e
  pub known : (e : ℕ) → e < count → nat_at numbers e < most
  pub room : first + most ≤ source_width

-- of tick t: the next entry is by a clock before t, and it is of no tick between the two
pub record TickReady (ticks : List ℕ) (count clock t next : ℕ) : Type 0 where
  pub next_is : next ≡ next_entry ticks (λ e. true) count clock
  pub later : clock < t
  pub ahead : next < count → t ≤ nat_at ticks next

-- what the entries of tick t leave, where `values` were the values of sources
pub record EntriesObeyed (first most : ℕ) (ticks numbers : List ℕ) (settings : List ℤ) (count t : ℕ) (values : List ℤ) (o : AfterEntries) : Type 0 where
  pub numbers_are : o.numbers ≡ mask_of (λ j. some (sets ticks numbers t j) count) most
  pub next_is : o.next ≡ next_entry ticks (λ e. true) count t
  pub same_length : length o.values ≡ length values
  pub values_are : (j : ℕ) → j < most → int_at o.values (first + j) ≡ value_then ticks numbers settings t j (int_at values (first + j)) count
  pub below : (i : ℕ) → i < first → int_at o.values i ≡ int_at values i
  pub above : (i : ℕ) → first + most ≤ i → int_at o.values i ≡ int_at values i

-- ---- what the first e entries do, of those of tick t
module _ (ticks numbers : List ℕ) (t j : ℕ) where
  value-next : (settings : List ℤ) (before : ℤ) (e : ℕ) → sets ticks numbers t j e ≡ false
      → value_then ticks numbers settings t j before (suc e) ≡ value_then ticks numbers settings t j before e
  unfolding value_then
  value-next settings before e f = rw f

  some_next : (e : ℕ) → sets ticks numbers t j e ≡ false → some (sets ticks numbers t j) (suc e) ≡ some (sets ticks numbers t j) e
  unfolding some
  some_next e f = rw f (or-false (some (sets ticks numbers t j) e))

  other_tick : (e : ℕ) → (nat_at ticks e ≡ t → ⊥) → sets ticks numbers t j e ≡ false
  other_tick e h = means_false (sets_means ticks numbers t j e).0 (λ s. h s.0)

  own-tick : (e : ℕ) → nat_at ticks e ≡ t → sets ticks numbers t j e ≡ eqb (nat_at numbers e) j
  unfolding sets
  own-tick e h = rw (eq-eqb (nat_at ticks e) t h)

module _ (first most : ℕ) (ticks numbers : List ℕ) (settings : List ℤ) (count : ℕ) (columns : EntryColumns first most ticks numbers count)
    (values : List ℤ) (full : length values ≡ source_width) (t : ℕ) where
  -- the ticks ascend
  ticks_ascend : (d e : ℕ) → d ≤ e → e < count → nat_at ticks d ≤ nat_at ticks e
  ticks_ascend d e h l = go (eqb d e) refl
    where
      go : (b : Bool) → eqb d e ≡ b → nat_at ticks d ≤ nat_at ticks e
      go true s = omega (arith, ap (nat_at ticks) (eqb-true d e s))
      go false s =
          let before : d < e = omega (arith, eqb-false d e s) in
          ⊎_elim (λ b. omega arith) (λ b. omega arith) (ascending ticks numbers count columns.ascends d e before l)

  abbrev set_to : ℕ → ℕ → ℤ
  set_to j = value_then ticks numbers settings t j (int_at values (first + j))

  abbrev is_set : ℕ → ℕ → Bool
  is_set j = some (sets ticks numbers t j)

  abbrev obey : ℕ → AfterEntries → AfterEntries
  obey = after_entry first ticks numbers settings t

  abbrev obey_all : ℕ → ℕ → AfterEntries → AfterEntries
  obey_all = after_entries_from first ticks numbers settings t

  -- ---- one entry after the other
  -- those of tick t are obeyed that stand before the next one
  record ObeyedTo (o : AfterEntries) : Type 0 where
    until : o.next ≤ count
    earlier : (e : ℕ) → e < o.next → nat_at ticks e ≤ t
    ahead : o.next < count → t ≤ nat_at ticks o.next
    small : o.numbers < 2 ^ most
    marked : (j : ℕ) → has o.numbers j ≡ is_set j o.next
    same_length : length o.values ≡ length values
    stored : (j : ℕ) → int_at o.values (first + j) ≡ set_to j o.next
    below : (i : ℕ) → i < first → int_at o.values i ≡ int_at values i
    above : (i : ℕ) → first + most ≤ i → int_at o.values i ≡ int_at values i

  -- one more
  obeyed_more : (o : AfterEntries) → ObeyedTo o → o.next < count → nat_at ticks o.next ≡ t → ObeyedTo (obey o.next o)
  unfolding after_entry value_then some
  obeyed_more o w h tick =
      let e = o.next in
      let k = nat_at numbers o.next in
      let v = int_at settings o.next in
      let known = columns.known o.next h in
      let room = columns.room in
      record {
        until = omega arith;
        earlier = λ d l. let b : d < suc e = omega arith in below_suc (λ d. nat_at ticks d ≤ t) b (w.earlier d) (omega arith);
        ahead = λ l. omega (arith, ticks_ascend e (e + 1) (omega arith) l);
        small = with_lt most o.numbers k w.small known;
        marked = λ j. has_with o.numbers k j ∙ rw (add-one, own-tick ticks numbers t j e tick, w.marked j, eqb_same j k k j sym sym);
        same_length = length-set o.values (first + k) v ∙ w.same_length;
        stored = λ j.
            let same = eqb_same (first + k) (first + j) k j (λ q. omega arith) (λ q. omega arith) in
            set-entry o.values (first + k) (first + j) v (omega (arith, w.same_length))
            ∙ rw (same, add-one, own-tick ticks numbers t j e tick, w.stored j);
        below = λ i l. get_or-set_other o.values (first + k) i v (pos 0) (λ q. omega arith) ∙ w.below i l;
        above = λ i l. get_or-set_other o.values (first + k) i v (pos 0) (λ q. omega arith) ∙ w.above i l;
      }

  -- all: the next entry is of another tick, or there is none
  abbrev Done : AfterEntries → Type 0
  Done o = ObeyedTo o × (o.next < count → nat_at ticks o.next ≡ t → ⊥)

  obeyed_all : (left : ℕ) (o : AfterEntries) → o.next + left ≡ count → ObeyedTo o → Done (obey_all o.next left o)
  unfolding after_entries_from after_entry
  obeyed_all zero o l w = (w, λ h. absurd (omega arith))
  obeyed_all (suc left) o l w =
      go (eqb (nat_at ticks o.next) t) refl
      (λ b. obeyed_all left (obey o.next o) (omega arith) (obeyed_more o w (omega arith) (eqb-true (nat_at ticks o.next) t b)))
    where
      go : (b : Bool) → eqb (nat_at ticks o.next) t ≡ b
          → (eqb (nat_at ticks o.next) t ≡ true → Done (obey_all (o.next + 1) left (obey o.next o)))
          → Done (cond b (obey_all (o.next + 1) left (obey o.next o)) o)
      go true b more = more b
      go false b more = (w, λ h. eqb-false (nat_at ticks o.next) t b)

  -- ---- from the next one on
  module _ (clock next : ℕ) (ready : TickReady ticks count clock t next) where
    before : (d : ℕ) → d < next → nat_at ticks d < t
    before d h =
        let past : clock < nat_at ticks d → ⊥ = λ l. next-earlier ticks (λ e. true) count clock d (rw (← ready.next_is) h) (l, refl) in
        omega (arith, past, ready.later)

    -- no entry before it is of the tick
    none_before : (j d : ℕ) → d < next → sets ticks numbers t j d ≡ false
    none_before j d h = other_tick ticks numbers t j d (λ q. omega (arith, before d h))

    first_values_lem : (j : ℕ) → set_to j next ≡ int_at values (first + j)
    unfolding value_then
    first_values_lem j =
        unchanged (set_to j) 0 next (omega arith)
        (λ d l h. value-next ticks numbers t j settings (int_at values (first + j)) d (none_before j d h))

    first_marks : (j : ℕ) → is_set j next ≡ false
    unfolding some
    first_marks j = unchanged (is_set j) 0 next (omega arith) (λ d l h. some_next ticks numbers t j d (none_before j d h))

    begun : ObeyedTo (after_entries values 0 next)
    begun =
        record {
          until = rw ready.next_is (next-most ticks (λ e. true) count clock);
          earlier = λ d h. omega (arith, before d h);
          ahead = ready.ahead;
          small = pow_pos most;
          marked = λ j. has-none j ∙ sym (first_marks j);
          same_length = refl;
          stored = λ j. sym (first_values_lem j);
          below = λ i h. refl;
          above = λ i h. refl;
        }

  -- ---- all of them
  module _ (o : AfterEntries) (w : ObeyedTo o) (end : o.next < count → nat_at ticks o.next ≡ t → ⊥) where
    past : o.next < count → t < nat_at ticks o.next
    past h = omega (arith, w.ahead h, end h)

    -- no entry from the next one on is of the tick
    none_after : (j d : ℕ) → o.next ≤ d → d < count → sets ticks numbers t j d ≡ false
    none_after j d h l = other_tick ticks numbers t j d (λ q. omega (arith, past (omega arith), ticks_ascend o.next d h l))

    all-values : (j : ℕ) → set_to j count ≡ set_to j o.next
    all-values j =
        unchanged (set_to j) o.next count w.until
        (λ d l h. value-next ticks numbers t j settings (int_at values (first + j)) d (none_after j d l h))

    all_marks : (j : ℕ) → is_set j count ≡ is_set j o.next
    all_marks j = unchanged (is_set j) o.next count w.until (λ d l h. some_next ticks numbers t j d (none_after j d l h))

    finished : EntriesObeyed first most ticks numbers settings count t values o
    finished =
        record {
          numbers_are =
              mask_ext most o.numbers (mask_of (λ j. is_set j count) most) w.small (mask_of_lt (λ j. is_set j count) most)
              (λ j h. w.marked j ∙ sym (all_marks j) ∙ sym (has-mask_of (λ j. is_set j count) most j h));
          next_is =
              next_is ticks (λ e. true) count t o.next w.until (λ d l n. omega (arith, w.earlier d l, n.0)) (λ l. (past l, refl));
          same_length = w.same_length;
          values_are = λ j h. w.stored j ∙ sym (all-values j);
          below = w.below;
          above = w.above;
        }

  pub entries_obeyed : (clock next : ℕ) → TickReady ticks count clock t next → {o : AfterEntries}
      → o ≡ after_entries_from first ticks numbers settings t next (count - next) (after_entries values 0 next)
      → EntriesObeyed first most ticks numbers settings count t values o
  entries_obeyed clock next ready {o} e =
      let start = begun clock next ready in
      let done = obeyed_all (count - next) (after_entries values 0 next) (omega (arith, start.until)) start in
      rw e (finished _ done.0 done.1)
