-- Laws: the events of the changed sources are the machine's, whichever sources change, and what writing them asks. Assumes nothing.
use Rattle.std.specs.Prelude.{◌≡◌, refl, Bool, ℤ}
use Rattle.std.proofs.Common.{sym, ◌∙◌, true≢false, add-zero, add-suc, ltb-true, ltb-false}
use Rattle.std.proofs.Math.Path.{ap}
use Rattle.std.proofs.Math.Bool.{true, false, cond}
use mathlib.Core.List.{List, [], append-nil}
use Prim.Native.Nat.{ℕ, zero, suc, ◌+◌, ◌-◌, ◌*◌, ◌≤◌, ◌<◌}
use native.Mathlib.Omega.{arith}
use Rattle.std.proofs.Math.Dec.{ltb}
use Rattle.std.proofs.Math.ListN.{length}
use Rattle.integers.specs.Parts.{∣◌∣}
use Rattle.bitset.specs.Mask.{has, mask_of}
use Rattle.bitset.proofs.Laws.Bits.{has-high, mask_of_lt, has-mask_of}
use Rattle.bitset.proofs.Laws.Counts.{count_of_le}
use Rattle.plan.specs.Numbers.{M, event_bytes}
use Rattle.plan.specs.Lists.{int_at, joined}
use Rattle.plan.specs.Rules.{PlanRules}
use Rattle.plan.proofs.Laws.CountLimits.{count-limits}
use Rattle.plan.specs.declared.Plan.{Plan}
use Rattle.machine.specs.Values.{value_with}
use Rattle.machine.specs.Instant.{bytes_of_event, events_at}
use Rattle.machine.specs.Runs.{events_most}
use Rattle.machine.proofs.Laws.EventWords.{length-events}
use Rattle.machine.proofs.Laws.SelectedBlocks.{joined_ext}
use Rattle.steps.specs.Events.{events_in, EventsReady}

-- ---- lists one behind the other, of which those from n on are empty
joined_cut : (f : ℕ → List ℕ) (n k : ℕ) → ((i : ℕ) → n ≤ i → f i ≡ []) → joined f (n + k) ≡ joined f n
unfolding joined
joined_cut f n zero e = rw add-zero
joined_cut f n (suc k) e = rw (add-suc, e (n + k) (omega arith), append-nil) (joined_cut f n k e)

-- ---- the events of an instant, over any set of sources that change: `mask` is its mask, their values stand in `values`
module _ (p : Plan) (rules : PlanRules p) (t : ℕ) (changed : ℕ → Bool) (q u values : List ℤ) (mask : ℕ)
    (all : mask ≡ mask_of changed (p.counts.n + p.counts.m)) (value : (i : ℕ) → i < p.counts.n + p.counts.m → int_at values i ≡ value_with p q u zero i) where
  mask_below : (i : ℕ) → i < p.counts.n + p.counts.m → has mask i ≡ changed i
  mask_below i h = rw all (has-mask_of changed (p.counts.n + p.counts.m) i h)

  mask_above : (i : ℕ) → p.counts.n + p.counts.m ≤ i → has mask i ≡ false
  mask_above i h = rw all (has-high (mask_of changed (p.counts.n + p.counts.m)) (p.counts.n + p.counts.m) i (mask_of_lt changed (p.counts.n + p.counts.m)) h)

  pub events_are : events_in t mask values ≡ events_at p t changed q u
  unfolding events_in events_at
  events_are =
      let limits = count-limits p rules.counts in
      let whole : p.counts.n + p.counts.m + (64 - (p.counts.n + p.counts.m)) ≡ 64 = omega arith in
      ap (joined written) (sym whole) ∙ joined_cut written (p.counts.n + p.counts.m) (64 - (p.counts.n + p.counts.m)) (λ i h. rw (mask_above i h))
      ∙ joined_ext written (λ i. cond (changed i) (bytes_of_event t i (value_with p q u zero i)) []) (p.counts.n + p.counts.m)
      (λ i h. rw (mask_below i h, value i h))
    where
      written : ℕ → List ℕ
      written i = cond (has mask i) (bytes_of_event t i (int_at values i)) []

  -- writing them asks for room and for values of their size
  pub events-ready : (at size : ℕ) → at + events_most p * event_bytes ≤ size → ((i : ℕ) → i < p.counts.n + p.counts.m → ∣ int_at values i ∣ ≤ M)
      → EventsReady t mask values at size
  unfolding events_most
  events-ready at size room sized =
      record {
        room = omega (arith, ap length events_are, length-events p t changed q u, count_of_le changed (p.counts.n + p.counts.m));
        sized = λ i h. inside i h (ltb i (p.counts.n + p.counts.m)) refl;
      }
    where
      inside : (i : ℕ) → has mask i ≡ true → (b : Bool) → ltb i (p.counts.n + p.counts.m) ≡ b → ∣ int_at values i ∣ ≤ M
      inside i h true e = sized i (ltb-true i (p.counts.n + p.counts.m) e)
      inside i h false e = absurd (true≢false (sym h ∙ mask_above i (ltb-false i (p.counts.n + p.counts.m) e)))
