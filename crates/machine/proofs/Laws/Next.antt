-- Laws: the next instant's tick is the least of all due ticks and the next command's, and the next command is the first above the clock.
-- Assumes nothing.
use Rattle.std.specs.Prelude.{◌≡◌, refl, true, ◌⊎◌, List}
use Rattle.std.proofs.Math.Path.{sym}
use Rattle.std.proofs.Common.{◌∙◌}
use Rattle.std.proofs.Math.Logic.{inl, inr}
use Prim.Native.Nat.{ℕ, zero, suc, ◌≤◌, ◌<◌, min}
use native.Mathlib.Omega.{arith, min_cases}
use Rattle.plan.specs.Numbers.{never}
use Rattle.plan.specs.Lists.{nat_at}
use Rattle.plan.proofs.Laws.Searches.{below_suc}
use Rattle.plan.specs.declared.Plan.{Plan}
use Rattle.machine.specs.Next.{next_command, least_due}
use Rattle.machine.specs.Held.{Held, entries_tick, next_tick}
use Rattle.machine.proofs.Laws.SoundClauses.{NextByRule}
use Rattle.machine.proofs.Laws.Entries.{entry-below, entry-above, entry-one, next-earlier, next-later, next-most, next_is, next-above}

-- ---- the least of the first n due ticks
least-below : (d : List ℕ) (n i : ℕ) → i < n → least_due d n ≤ nat_at d i
unfolding least_due
least-below d zero i h = absurd (omega arith)
least-below d (suc n) i h =
    below_suc (λ j. min (least_due d n) (nat_at d n) ≤ nat_at d j) h (λ l. omega (arith, least-below d n i l)) (omega arith)

pub least-most : (d : List ℕ) (n : ℕ) → least_due d n ≤ never
unfolding least_due
least-most d zero = omega arith
least-most d (suc n) = omega (arith, least-most d n)

least_above : (d : List ℕ) (n c : ℕ) → c ≤ never → ((i : ℕ) → i < n → c ≤ nat_at d i) → c ≤ least_due d n
unfolding least_due
least_above d zero c h f = h
least_above d (suc n) c h f = omega (arith, least_above d n c h (λ i l. f i (omega arith)), f n (omega arith))

-- it is one of them
least-one : (d : List ℕ) (n : ℕ) → least_due d n < never → (i : ℕ) × (i < n) × (nat_at d i ≡ least_due d n)
unfolding least_due
least-one d zero h = absurd (omega arith)
least-one d (suc n) h =
    min_cases (least_due d n) (nat_at d n) ((i : ℕ) × (i < suc n) × (nat_at d i ≡ min (least_due d n) (nat_at d n)))
    (λ l e. let f = least-one d n (omega arith) in (f.0, omega (arith, f.1), omega (arith, f.2))) (λ l e. (n, omega arith, omega arith))

-- ---- the next command
module _ (p : Plan) (c : ℕ) where
  pub command-earlier : (e : ℕ) → e < next_command p c → nat_at p.commands.ticks e ≤ c
  unfolding next_command
  command-earlier e h =
      let past : c < nat_at p.commands.ticks e → ⊥ = λ l. next-earlier p.commands.ticks (λ e. true) p.counts.commands c e h (l, refl) in
      omega (arith, past)

  pub command-first : next_command p c < p.counts.commands → c < nat_at p.commands.ticks (next_command p c)
  unfolding next_command
  command-first h = (next-later p.commands.ticks (λ e. true) p.counts.commands c h).0

  pub command-most : next_command p c ≤ p.counts.commands
  unfolding next_command
  command-most = next-most p.commands.ticks (λ e. true) p.counts.commands c

  -- these determine it
  pub command_is : (next : ℕ) → next ≤ p.counts.commands → ((e : ℕ) → e < next → nat_at p.commands.ticks e ≤ c) → (next < p.counts.commands → c < nat_at p.commands.ticks next)
      → next ≡ next_command p c
  unfolding next_command
  command_is next h before this =
      next_is p.commands.ticks (λ e. true) p.counts.commands c next h (λ d l n. omega (arith, before d l, n.0)) (λ l. (this l, refl))

-- ---- the tick that the plan's entries make
module _ (p : Plan) (h : Held) where
  pub entries_below : h.next < p.counts.commands → entries_tick p h ≤ nat_at p.commands.ticks h.next
  unfolding entries_tick
  entries_below = entry-below p.commands.ticks p.counts.commands h.next

  entries-never : (h.next < p.counts.commands → never ≤ nat_at p.commands.ticks h.next) → never ≤ entries_tick p h
  unfolding entries_tick
  entries-never = entry-above p.commands.ticks p.counts.commands h.next never (omega arith)

  -- it is the next command's
  abbrev pub EntryAt : ℕ → Type 0
  EntryAt t = (h.next < p.counts.commands) × (nat_at p.commands.ticks h.next ≡ t)

  entries-one : entries_tick p h < never → EntryAt (entries_tick p h)
  unfolding entries_tick
  entries-one = entry-one p.commands.ticks p.counts.commands h.next

  -- where the next ones are by rule, it lies past the clock
  pub entries_after : (c : ℕ) → NextByRule p c h → c < never → c < entries_tick p h
  unfolding entries_tick next_command
  entries_after c by l = rw by.command (next-above p.commands.ticks (λ e. true) p.counts.commands c l)

-- ---- the tick of the next instant, by any due ticks and whatever is held
module _ (p : Plan) (d : List ℕ) (h : Held) where
  tick-most : next_tick p d h ≤ never
  unfolding next_tick
  tick-most = omega (arith, least-most d p.counts.n)

  pub tick-due : (i : ℕ) → i < p.counts.n → next_tick p d h ≤ nat_at d i
  unfolding next_tick
  tick-due i l = omega (arith, least-below d p.counts.n i l)

  pub tick-command : h.next < p.counts.commands → next_tick p d h ≤ nat_at p.commands.ticks h.next
  unfolding next_tick
  tick-command l = omega (arith, entries_below p h l)

  -- what stands at or below all of them
  pub tick-above : (c : ℕ) → c ≤ never → ((i : ℕ) → i < p.counts.n → c ≤ nat_at d i) → c ≤ entries_tick p h → c ≤ next_tick p d h
  unfolding next_tick
  tick-above c l f g = omega (arith, least_above d p.counts.n c l f)

  pub tick-never : ((i : ℕ) → i < p.counts.n → never ≤ nat_at d i) → (h.next < p.counts.commands → never ≤ nat_at p.commands.ticks h.next)
      → next_tick p d h ≡ never
  tick-never f g = omega (arith, tick-most, tick-above never (omega arith) f (entries-never p h g))

  -- it is one of them
  pub tick-one : next_tick p d h < never
      → ((i : ℕ) × (i < p.counts.n) × (nat_at d i ≡ next_tick p d h)) ⊎ EntryAt p h (next_tick p d h)
  unfolding next_tick
  tick-one l =
      min_cases (least_due d p.counts.n) (entries_tick p h) (One (min (least_due d p.counts.n) (entries_tick p h)))
      (λ b e. let f = least-one d p.counts.n (omega arith) in inl (f.0, f.1, f.2 ∙ sym e))
      (λ b e. inr (rw e (entries-one p h (omega arith))))
    where
      One : ℕ → Type 0
      One t = ((i : ℕ) × (i < p.counts.n) × (nat_at d i ≡ t)) ⊎ EntryAt p h t
