-- Laws: what the status is, its number and integrator, and what a paused one says, for any tick, set of those that give
-- their positions as outputs, and values. Assumes nothing.
use Rattle.std.specs.Prelude.{◌≡◌, Bool, cond, ◌&&◌, ◌||◌, ◌⊎◌, ◌↔◌, ℕ, ◌≤◌, ◌<◌, ℤ, eqb}
use Rattle.std.proofs.Math.Path.{refl}
use Rattle.std.proofs.Common.{sym, true≢false, inl, inr}
use Rattle.std.proofs.Math.Bool.{true, false, not, or-true}
use native.Mathlib.Omega.{arith}
use Rattle.std.proofs.Math.Dec.{ltb}
use borrow.Author.Tests.{ltb-true, ltb-false, lt-ltb, le-ltb, eq-eqb, ne_eqb}
use Rattle.integers.specs.Parts.{∣◌∣}
use Rattle.integers.specs.Range.{within}
use Rattle.integers.proofs.Laws.Range.{within_true, within_false}
use Rattle.plan.specs.Numbers.{M, never}
use Rattle.plan.proofs.Laws.Searches.{First, first, first_unique, first_ext}
use Rattle.plan.specs.declared.Plan.{Plan}
use Rattle.machine.specs.Reach.{is_due, gives}
use Rattle.machine.specs.Status.{status_number, status_integrator, is_paused, bars, barring, status_by, status_at, status_of, running_paused}
use Rattle.machine.specs.Instant.{position_at, next_tick_of}
use Rattle.machine.specs.declared.Running.{Running}
use Rattle.machine.specs.declared.Status.{Status}
use Rattle.machine.specs.declared.Status.TheVariants.{Paused, Finished, Range}

-- ---- of any status
pub number-most : (status : Status) → status_number status ≤ 2
unfolding status_number
number-most Paused = omega arith
number-most Finished = omega arith
number-most (Range i) = omega arith

pub no_integrator : (status : Status) → (status_number status ≡ 2 → ⊥) → status_integrator status ≡ 0
unfolding status_number status_integrator
no_integrator Paused h = refl
no_integrator Finished h = refl
no_integrator (Range i) h = absurd (h refl)

pub paused_true : (status : Status) → status ≡ Paused → is_paused status ≡ true
unfolding is_paused
paused_true status e = rw e

pub paused_false : (status : Status) → (status ≡ Paused → ⊥) → is_paused status ≡ false
unfolding is_paused
paused_false Paused h = absurd (h refl)
paused_false Finished h = refl
paused_false (Range i) h = refl

pub true_paused : (status : Status) → is_paused status ≡ true → status ≡ Paused
unfolding is_paused
true_paused Paused e = refl
true_paused Finished e = absurd (true≢false (sym e))
true_paused (Range i) e = absurd (true≢false (sym e))

pub zero_paused : (status : Status) → status_number status ≡ 0 → status ≡ Paused
unfolding status_number
zero_paused Paused e = refl
zero_paused Finished e = absurd (omega arith)
zero_paused (Range i) e = absurd (omega arith)

pub paused_zero : (status : Status) → status ≡ Paused → status_number status ≡ 0
unfolding status_number
paused_zero status e = rw e

module _ (giving : ℕ → Bool) (value : ℕ → ℤ) (i : ℕ) where
  -- ---- integrator i bars the instant, or does not
  bars_true : giving i ≡ true → M < ∣ value i ∣ → bars giving value i ≡ true
  unfolding bars
  bars_true e h = rw (e, (within_false M (value i)).1 h)

  bars_false : (bars giving value i ≡ false) ↔ (giving i ≡ true → ∣ value i ∣ ≤ M)
  unfolding bars
  bars_false = (λ e k. kept (within M (value i)) refl (rw k at e), λ f. clear (giving i) refl f)
    where
      kept : (b : Bool) → within M (value i) ≡ b → not b ≡ false → ∣ value i ∣ ≤ M
      kept true w e = (within_true M (value i)).0 w
      kept false w e = absurd (true≢false e)

      clear : (b : Bool) → giving i ≡ b → (giving i ≡ true → ∣ value i ∣ ≤ M) → (b && not (within M (value i))) ≡ false
      clear true e f = rw ((within_true M (value i)).1 (f e))
      clear false e f = refl

module _ (p : Plan) (t : ℕ) (giving : ℕ → Bool) (value : ℕ → ℤ) where
  found : First (bars giving value) 0 p.counts.n (barring p giving value)
  unfolding barring
  found = first (bars giving value) 0 p.counts.n

  -- none below it bars the instant, and it does where it is an integrator
  barring_is : (f : ℕ) → f ≤ p.counts.n → ((j : ℕ) → j < f → giving j ≡ true → ∣ value j ∣ ≤ M) → (f < p.counts.n → bars giving value f ≡ true)
      → f ≡ barring p giving value
  unfolding barring
  barring_is f h none this =
      first_unique (bars giving value) 0 p.counts.n f
      (record { from = omega arith; most = omega arith; earlier = clear; passes = λ l. this (omega arith) })
    where
      clear : (j : ℕ) → 0 ≤ j → j < f → bars giving value j ≡ false
      clear j k l = (bars_false giving value j).1 (none j l)

  -- no integrator bars the instant
  barring-none : (p.counts.n ≤ barring p giving value) ↔ ((i : ℕ) → i < p.counts.n → giving i ≡ true → ∣ value i ∣ ≤ M)
  barring-none = (
    λ h i l. (bars_false giving value i).0 (found.earlier i (omega arith) (omega arith)),
    λ f. omega (arith, barring_is p.counts.n (omega arith) f (λ l. absurd (omega arith))),
  )

  -- the instant is not behind the end
  going : (t ≡ never → ⊥) → t ≤ p.horizon → (eqb t never || ltb p.horizon t) ≡ false
  going h l = rw (ne_eqb t never h, le-ltb p.horizon t l)

  pub status-finished : (t ≡ never) ⊎ (p.horizon < t) → status_at p t giving value ≡ Finished
  unfolding status_at status_by
  status-finished (inl e) = rw (eq-eqb t never e)
  status-finished (inr h) = rw (lt-ltb p.horizon t h, or-true (eqb t never))

  -- with the lowest integrator that bars it
  pub status-range : (t ≡ never → ⊥) → t ≤ p.horizon → (i : ℕ) → i < p.counts.n → giving i ≡ true → M < ∣ value i ∣
      → ((j : ℕ) → j < i → giving j ≡ true → ∣ value j ∣ ≤ M) → status_at p t giving value ≡ Range i
  unfolding status_at status_by
  status-range h l i k e b f =
      let this = barring_is i (omega arith) f (λ m. bars_true giving value i e b) in
      rw (going h l, ← this, lt-ltb i p.counts.n k)

  pub status-paused : (t ≡ never → ⊥) → t ≤ p.horizon → ((i : ℕ) → i < p.counts.n → giving i ≡ true → ∣ value i ∣ ≤ M)
      → status_at p t giving value ≡ Paused
  unfolding status_at status_by
  status-paused h l f = rw (going h l, le-ltb (barring p giving value) p.counts.n (barring-none.1 f))

  pub integrator-most : p.counts.n ≤ 32 → status_integrator (status_at p t giving value) ≤ 31
  unfolding status_at status_by status_integrator
  integrator-most h = go (eqb t never || ltb p.horizon t) (ltb (barring p giving value) p.counts.n) refl
    where
      go : (a b : Bool) → ltb (barring p giving value) p.counts.n ≡ b
          → status_integrator (cond a Finished (cond b (Range (barring p giving value)) Paused)) ≤ 31
      go true b e = omega arith
      go false true e = omega (arith, ltb-true (barring p giving value) p.counts.n e)
      go false false e = omega arith

  -- ---- what a paused status says
  module _ (paused : status_at p t giving value ≡ Paused) where
    tests : (eqb t never ≡ false) × (ltb p.horizon t ≡ false) × (ltb (barring p giving value) p.counts.n ≡ false)
    unfolding status_at status_by is_paused
    tests = go (eqb t never) (ltb p.horizon t) (ltb (barring p giving value) p.counts.n) (paused_true (status_at p t giving value) paused)
      where
        go : (a b c : Bool) → is_paused (cond (a || b) Finished (cond c (Range (barring p giving value)) Paused)) ≡ true
            → (a ≡ false) × (b ≡ false) × (c ≡ false)
        go true b c e = absurd (true≢false (sym e))
        go false true c e = absurd (true≢false (sym e))
        go false false true e = absurd (true≢false (sym e))
        go false false false e = (refl, refl, refl)

    pub paused-horizon : t ≤ p.horizon
    paused-horizon = ltb-false p.horizon t tests.1

    pub paused-size : (i : ℕ) → i < p.counts.n → giving i ≡ true → ∣ value i ∣ ≤ M
    paused-size = barring-none.0 (ltb-false (barring p giving value) p.counts.n tests.2)

-- ---- what agrees on the integrators gives one status
module _ (p : Plan) (t : ℕ) (giving giving' : ℕ → Bool) (value value' : ℕ → ℤ) (same-giving : (i : ℕ) → i < p.counts.n → giving i ≡ giving' i)
    (same-value : (i : ℕ) → i < p.counts.n → value i ≡ value' i) where
  barring_same : barring p giving value ≡ barring p giving' value'
  unfolding barring bars
  barring_same =
      first_ext (bars giving value) (bars giving' value') 0 p.counts.n (λ i h. rw (same-giving i (omega arith), same-value i (omega arith)))

  pub status_same : status_at p t giving value ≡ status_at p t giving' value'
  unfolding status_at status_by
  status_same = rw barring_same

-- ---- a paused state
module _ (p : Plan) (r : Running) where
  pub is_paused_lem : status_of p r ≡ Paused → running_paused p r ≡ true
  unfolding running_paused
  is_paused_lem = paused_true (status_of p r)

  module _ (paused : running_paused p r ≡ true) where
    abbrev giving_next : ℕ → Bool
    giving_next = gives (is_due r.d (next_tick_of p r))

    pub paused-status : status_of p r ≡ Paused
    unfolding running_paused
    paused-status = true_paused (status_of p r) paused

    pub tick-horizon : next_tick_of p r ≤ p.horizon
    unfolding status_of
    tick-horizon = paused-horizon p (next_tick_of p r) giving_next (position_at r (next_tick_of p r)) paused-status

    pub given_size : (i : ℕ) → i < p.counts.n → giving_next i ≡ true → ∣ position_at r (next_tick_of p r) i ∣ ≤ M
    unfolding status_of
    given_size = paused-size p (next_tick_of p r) giving_next (position_at r (next_tick_of p r)) paused-status
