-- Laws: the update count of one instant: how many its engine moves, which is how many have l = c after it, by the plain machine's due
-- ticks. Assumes nothing.
use Rattle.std.specs.Prelude.{◌≡◌, refl, Bool, true, false, cond, ℕ, ◌+◌, ◌≤◌, ◌<◌, eqb}
use Rattle.std.proofs.Common.{◌∙◌, arith, eq-eqb, ne_eqb}
use Rattle.bitset.specs.Counts.{count_of}
use Rattle.bitset.proofs.Laws.Counts.{count_of_ext, count_of-all, count_of_le}
use Rattle.plan.specs.Lists.{nat_at}
use Rattle.plan.specs.declared.Plan.{Plan}
use Rattle.machine.specs.Instant.{moves, Outcome, figures_after, outcome, moved_at, next_tick_of, instant}
use Rattle.machine.specs.Plain.{Plain, lazy_count}
use Rattle.machine.specs.Updates.{growth, moved_now}
use Rattle.machine.proofs.Laws.SoundClauses.{SoundRunning, limits_of}
use Rattle.machine.proofs.Laws.InstantFigures.{l_at}
use Rattle.machine.proofs.Laws.Soundness.{tick_after}
use Rattle.machine.proofs.Laws.Agreement.{Forward, same_tick, same_dues}
use Rattle.machine.proofs.Laws.Alike.{touched-alike}
use Rattle.machine.specs.declared.Running.{Running}
use Rattle.machine.specs.declared.Engine.{Engine}
use Rattle.machine.specs.declared.Engine.TheVariants.{Lazy, Eager}

-- no engine moves fewer than the lazy one, and none more than the eager one
pub growth-least : (p : Plan) (engine : Engine) (m : Plain) → growth p Lazy m ≤ growth p engine m
unfolding growth lazy_count
growth-least p Lazy m = omega arith
growth-least p Eager m = count_of_le _ p.counts.n

pub growth-most : (p : Plan) (engine : Engine) (m : Plain) → growth p engine m ≤ growth p Eager m
unfolding growth
growth-most p Lazy m = growth-least p Eager m
growth-most p Eager m = omega arith

-- whatever the outcome of an instant: those that moved are those with l = c after it
moved_now_lem : (p : Plan) (r : Running) → SoundRunning p r → (t : ℕ) → r.clocks.clock < t → (o : Outcome) (moved : ℕ → Bool) (w : ℕ)
    → moved_now p (figures_after p r t o moved w) ≡ count_of moved p.counts.n
unfolding moved_now figures_after
moved_now_lem p r ok t after o moved w = count_of_ext _ _ p.counts.n marked
  where
    marked : (i : ℕ) → i < p.counts.n → eqb (nat_at (figures_after p r t o moved w).l i) t ≡ moved i
    marked i h = rw (l_at p (limits_of ok) r t o moved w i h) (go (moved i))
      where
        go : (b : Bool) → eqb (cond b t (nat_at r.l i)) t ≡ b
        go true = eq-eqb t t refl
        go false = ne_eqb (nat_at r.l i) t (λ e. omega (arith, after, (ok.integrators i h).moved))

-- 6. "updates grows by the number of integrators moved, each counted once"
updates_then : (p : Plan) (r : Running) (engine : Engine)
    → (instant p engine r).clocks.updates ≡ r.clocks.updates + count_of (moved_at p r (next_tick_of p r) engine) p.counts.n
unfolding instant figures_after
updates_then p r engine = refl

module _ (p : Plan) (r : Running) (m : Plain) (a : Forward p r m) (engine : Engine) where
  -- how many the engine moves
  moved-count : count_of (moved_at p r (next_tick_of p r) engine) p.counts.n ≡ growth p engine m
  unfolding growth lazy_count moves
  moved-count = go engine
    where
      go : (e : Engine) → count_of (moved_at p r (next_tick_of p r) e) p.counts.n ≡ growth p e m
      go Lazy = count_of_ext _ _ p.counts.n (touched-alike p (same_dues p r m a) (same_tick p r m a))
      go Eager = count_of-all p.counts.n

  pub instant-updates : (instant p engine r).clocks.updates ≡ r.clocks.updates + growth p engine m
  instant-updates = updates_then p r engine ∙ rw moved-count

  -- "either way this is the number of integrators with l = c after it"
  pub instant-moved : SoundRunning p r → moved_now p (instant p engine r) ≡ growth p engine m
  unfolding instant
  instant-moved ok = moved_now_lem p r ok (next_tick_of p r) (tick_after p r ok) (outcome p r (next_tick_of p r)) _ _ ∙ moved-count
