-- Laws: runs of the plain machine: it takes its budget or fewer instants, all of it where it is still paused, and a run goes on where one
-- ended, with its events behind. Assumes nothing.
use Rattle.std.specs.Prelude.{◌≡◌, Bool, ◌⊎◌}
use Rattle.std.proofs.Math.Path.{refl, sym}
use Rattle.std.proofs.Common.{ap, ◌∙◌, zero-add, suc-add}
use Rattle.std.proofs.Math.Bool.{true, false, cond}
use Rattle.std.proofs.lemmas.Bool.{false≢true}
use Rattle.std.proofs.Math.Logic.{inl, inr}
use mathlib.Core.List.{[], ◌++◌, append_assoc, append-nil}
use Prim.Native.Nat.{ℕ, zero, suc, ◌+◌, ◌-◌, ◌≤◌, ◌<◌}
use native.Mathlib.Omega.{arith}
use Rattle.plan.specs.declared.Plan.{Plan}
use Rattle.machine.specs.Plain.{Plain, settled, plain_start, plain_instant, plain_events_of, plain_status}
use Rattle.machine.specs.Plain.{plain_from, plain_events_from, plain_after, plain_events}
use Rattle.machine.specs.Status.{status_number, is_paused}
use Rattle.machine.proofs.Laws.Status.{paused_true, paused_false, true_paused}
use Rattle.machine.specs.declared.Status.{Status}
use Rattle.machine.specs.declared.Status.TheVariants.{Paused, Finished, Range}

module _ (p : Plan) where
  instant-counts : (m : Plain) → (plain_instant p m).held.instants ≡ m.held.instants + 1
  unfolding plain_instant settled
  instant-counts m = refl

  pub plain_stopped : (b : ℕ) (m : Plain) → is_paused (plain_status p m) ≡ false → plain_from p b m ≡ m
  unfolding plain_from
  plain_stopped zero m e = refl
  plain_stopped (suc b) m e = rw e

  -- a run goes on where one ended
  pub plain_append : (a b : ℕ) (m : Plain) → plain_from p (a + b) m ≡ plain_from p b (plain_from p a m)
  unfolding plain_from
  plain_append zero b m = rw (zero-add b)
  plain_append (suc a) b m = rw (suc-add a b) (go (is_paused (plain_status p m)) refl (plain_append a b (plain_instant p m)))
    where
      go : (c : Bool) → is_paused (plain_status p m) ≡ c → plain_from p (a + b) (plain_instant p m) ≡ plain_from p b (plain_from p a (plain_instant p m))
          → cond c (plain_from p (a + b) (plain_instant p m)) m ≡ plain_from p b (cond c (plain_from p a (plain_instant p m)) m)
      go true e ih = ih
      go false e ih = sym (plain_stopped b m e)

  events-stopped : (b : ℕ) (m : Plain) → is_paused (plain_status p m) ≡ false → plain_events_from p b m ≡ []
  unfolding plain_events_from
  events-stopped zero m e = refl
  events-stopped (suc b) m e = rw e

  -- and its events stand behind those before them
  events-append : (a b : ℕ) (m : Plain) → plain_events_from p (a + b) m ≡ plain_events_from p a m ++ plain_events_from p b (plain_from p a m)
  unfolding plain_from plain_events_from
  events-append zero b m = rw (zero-add b)
  events-append (suc a) b m = rw (suc-add a b) (go (is_paused (plain_status p m)) refl (events-append a b (plain_instant p m)))
    where
      next : Plain
      next = plain_instant p m

      go : (c : Bool) → is_paused (plain_status p m) ≡ c
          → plain_events_from p (a + b) next ≡ plain_events_from p a next ++ plain_events_from p b (plain_from p a next)
          → cond c (plain_events_of p m ++ plain_events_from p (a + b) next) []
          ≡ cond c (plain_events_of p m ++ plain_events_from p a next) [] ++ plain_events_from p b (cond c (plain_from p a next) m)
      go true e ih = rw ih (sym (append_assoc (plain_events_of p m) (plain_events_from p a next) (plain_events_from p b (plain_from p a next))))
      go false e ih = sym (events-stopped b m e)

  -- it takes no instant back, and no more than its budget
  plain_range : (b : ℕ) (m : Plain) → (m.held.instants ≤ (plain_from p b m).held.instants) × ((plain_from p b m).held.instants ≤ m.held.instants + b)
  unfolding plain_from
  plain_range zero m = omega arith
  plain_range (suc b) m = go (is_paused (plain_status p m)) (plain_from p b (plain_instant p m)) (plain_range b (plain_instant p m))
    where
      go : (c : Bool) (end : Plain) → ((plain_instant p m).held.instants ≤ end.held.instants) × (end.held.instants ≤ (plain_instant p m).held.instants + b)
          → (m.held.instants ≤ (cond c end m).held.instants) × ((cond c end m).held.instants ≤ m.held.instants + suc b)
      go true end ih = omega (arith, ih, instant-counts m)
      go false end ih = omega arith

  -- where it is still paused it took all of its budget
  pub plain_all : (b : ℕ) (m : Plain) → plain_status p (plain_from p b m) ≡ Paused → (plain_from p b m).held.instants ≡ m.held.instants + b
  unfolding plain_from
  plain_all zero m e = omega arith
  plain_all (suc b) m e = go (is_paused (plain_status p m)) refl (plain_all b (plain_instant p m)) e
    where
      go : (c : Bool) → is_paused (plain_status p m) ≡ c
          → (plain_status p (plain_from p b (plain_instant p m)) ≡ Paused → (plain_from p b (plain_instant p m)).held.instants ≡ (plain_instant p m).held.instants + b)
          → plain_status p (cond c (plain_from p b (plain_instant p m)) m) ≡ Paused → (cond c (plain_from p b (plain_instant p m)) m).held.instants ≡ m.held.instants + suc b
      go true f ih e = omega (arith, ih e, instant-counts m)
      go false f ih e = absurd (false≢true (sym f ∙ paused_true (plain_status p m) e))

  -- ---- from Start
  start-counts : (plain_start p).held.instants ≡ 0
  unfolding plain_start settled
  start-counts = refl

  -- "it takes B instants, or fewer if its status is first 1 or 2"
  pub takes_most : (b : ℕ) → (plain_after p b).held.instants ≤ b
  unfolding plain_after
  takes_most b = omega (arith, plain_range b (plain_start p), start-counts)

  pub takes_all : (b : ℕ) → plain_status p (plain_after p b) ≡ Paused → (plain_after p b).held.instants ≡ b
  unfolding plain_after
  takes_all b e = omega (arith, plain_all b (plain_start p) e, start-counts)

  -- fewer "if its status is first 1 or 2"
  pub takes_fewer : (b : ℕ) → (plain_after p b).held.instants < b
      → (status_number (plain_status p (plain_after p b)) ≡ 1) ⊎ (status_number (plain_status p (plain_after p b)) ≡ 2)
  unfolding status_number
  takes_fewer b h = go (plain_status p (plain_after p b)) (λ e. omega (arith, takes_all b e))
    where
      go : (status : Status) → (status ≡ Paused → ⊥) → (status_number status ≡ 1) ⊎ (status_number status ≡ 2)
      go Paused n = absurd (n refl)
      go Finished n = inl refl
      go (Range i) n = inr refl

  after_more : (a b : ℕ) → plain_after p (a + b) ≡ plain_from p b (plain_after p a)
  unfolding plain_after
  after_more a b = plain_append a b (plain_start p)

  -- before each instant that is taken it is paused
  pub paused_before : (i b : ℕ) → i < (plain_after p b).held.instants → plain_status p (plain_after p i) ≡ Paused
  paused_before i b h = go (is_paused (plain_status p (plain_after p i))) refl
    where
      split : b ≡ i + (b - i)
      split = omega (arith, takes_most b)

      go : (c : Bool) → is_paused (plain_status p (plain_after p i)) ≡ c → plain_status p (plain_after p i) ≡ Paused
      go true e = true_paused (plain_status p (plain_after p i)) e
      go false e =
          let same : plain_after p b ≡ plain_after p i = ap (plain_after p) split ∙ after_more i (b - i) ∙ plain_stopped (b - i) (plain_after p i) e in
          absurd (omega (arith, takes_most i, ap (λ m. m.held.instants) same))

  -- and the instant leads to the next
  pub after_next : (i : ℕ) → plain_status p (plain_after p i) ≡ Paused → plain_after p (i + 1) ≡ plain_instant p (plain_after p i)
  unfolding plain_from is_paused
  after_next i e = after_more i 1 ∙ rw e

  events_more : (a b : ℕ) → plain_events p (a + b) ≡ plain_events p a ++ plain_events_from p b (plain_after p a)
  unfolding plain_events plain_after
  events_more a b = events-append a b (plain_start p)

  -- with its events behind those before it
  pub events-next : (i : ℕ) → plain_status p (plain_after p i) ≡ Paused → plain_events p (i + 1) ≡ plain_events p i ++ plain_events_of p (plain_after p i)
  unfolding plain_events_from is_paused
  events-next i e = events_more i 1 ∙ rw (e, append-nil (plain_events_of p (plain_after p i)))

  -- where it is not paused, nothing follows
  pub after_same : (i : ℕ) → (plain_status p (plain_after p i) ≡ Paused → ⊥)
      → (plain_after p (i + 1) ≡ plain_after p i) × (plain_events p (i + 1) ≡ plain_events p i)
  after_same i h =
      let e = paused_false (plain_status p (plain_after p i)) h in
      (after_more i 1 ∙ plain_stopped 1 (plain_after p i) e, events_more i 1 ∙ rw (events-stopped 1 (plain_after p i) e, append-nil (plain_events p i)))

  -- so that many have been taken
  pub taken_so_far : (i b : ℕ) → i ≤ (plain_after p b).held.instants → (plain_after p i).held.instants ≡ i
  taken_so_far zero b h = omega (arith, takes_most 0)
  taken_so_far (suc i) b h =
      let z = paused_before i b h in
      let one_more : i + 1 ≡ suc i = omega arith in
      let e = ap (λ m. m.held.instants) (after_next i z) ∙ instant-counts (plain_after p i) in
      rw (← one_more) (omega (arith, takes_all i z))

  -- where fewer instants than the budget were taken, it is not paused behind them
  pub stopped_behind : (b : ℕ) → (plain_after p b).held.instants < b → is_paused (plain_status p (plain_after p (plain_after p b).held.instants)) ≡ false
  stopped_behind b h = go (is_paused (plain_status p (plain_after p k))) refl
    where
      k : ℕ
      k = (plain_after p b).held.instants

      split : b ≡ (k + 1) + (b - (k + 1))
      split = omega arith

      go : (c : Bool) → is_paused (plain_status p (plain_after p k)) ≡ c → c ≡ false
      go true e =
          let z = true_paused (plain_status p (plain_after p k)) e in
          let one_more = ap (λ m. m.held.instants) (after_next k z) ∙ instant-counts (plain_after p k) in
          let whole = ap (λ m. m.held.instants) (ap (plain_after p) split ∙ after_more (k + 1) (b - (k + 1))) in
          absurd (omega (arith, takes_all k z, plain_range (b - (k + 1)) (plain_after p (k + 1))))
      go false e = refl
