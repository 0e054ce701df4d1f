-- Laws: an instant leaves a sound state, whoever moves besides those woken or reached. Assumes nothing.
use Rattle.std.specs.Prelude.{◌≡◌, refl, Bool, true, false, cond, List, ℕ, suc, ◌*◌, ◌≤◌, ◌<◌, ℤ, pos}
use Rattle.std.proofs.Common.{sym, ◌∙◌, true≢false, arith}
use borrow.Author.Tests.{eqb-false}
use Rattle.integers.specs.Parts.{∣◌∣}
use Rattle.bitset.proofs.Laws.Counts.{count_of_le}
use Rattle.plan.specs.Numbers.{M, never}
use Rattle.plan.specs.Lists.{nat_at, int_at}
use Rattle.plan.proofs.Laws.Rows.{row_unused}
use Rattle.plan.specs.declared.Plan.{Plan}
use Rattle.machine.specs.Due.{due_of}
use Rattle.machine.specs.Held.{held_of, slope_of}
use Rattle.machine.specs.Reach.{is_due, woken, gives, placed, touched}
use Rattle.machine.specs.Instant.{position_at, moves, Outcome, due_then, figures_after, outcome, moved_at, next_tick_of, instant}
use Rattle.machine.specs.Status.{running_paused}
use Rattle.machine.proofs.Laws.SoundClauses.{SoundHeld, SoundIntegrator, SoundRunning, limits_of}
use Rattle.machine.proofs.Laws.BetweenLevels.{BetweenLevels, between_itself, between_same}
use Rattle.machine.proofs.Laws.Due.{due_ahead_lem}
use Rattle.machine.proofs.Laws.Next.{entries_after, tick-due, tick-above}
use Rattle.machine.proofs.Laws.Status.{tick-horizon, given_size}
use Rattle.machine.proofs.Laws.Positions.{stays_inside}
use Rattle.machine.proofs.Laws.InstantFigures.{outputs_at, output_kept, x_then, x_at, l_at}
use Rattle.machine.proofs.Laws.Unreached.{touched-woken, slope_kept}
use Rattle.machine.proofs.Laws.Woken.{woken-due, placed_kept, placed-size}
use Rattle.machine.proofs.Laws.Held.{held_then_lem}
use Rattle.machine.proofs.Laws.InstantByRule.{Keeps, Covers, slope_at, due_at, due_by_rule}
use Rattle.machine.specs.declared.Running.{Running}
use Rattle.machine.specs.declared.Engine.{Engine}
use Rattle.machine.specs.declared.Engine.TheVariants.{Lazy, Eager}

-- ---- any instant
-- at a tick past the clock and up to the horizon: what is held is sound, every integrator is strictly between its levels, and the slopes
-- are by rule
pub record Lawful (p : Plan) (r : Running) (t : ℕ) (o : Outcome) : Type 0 where
  pub after : r.clocks.clock < t
  pub until : t ≤ p.horizon
  pub held : SoundHeld p t o.held
  pub between : (i : ℕ) → i < p.counts.n → BetweenLevels p o.held.q i (o.x i)
  pub slope : (i : ℕ) → i < p.counts.n → o.s i ≡ slope_of p o.held i

module _ (p : Plan) (r : Running) (ok : SoundRunning p r) (t : ℕ) (o : Outcome) (lawful : Lawful p r t o)
    {awake touched : ℕ → Bool} (keeps : Keeps p r t o awake touched) (moved : ℕ → Bool) (covers : Covers p touched moved) (w : ℕ) where
  since : r.clocks.clock ≤ t
  since = omega (arith, lawful.after)

  -- one that does not move is not woken, and keeps its output
  between_stored : (i : ℕ) → i < p.counts.n → BetweenLevels p o.held.q i (int_at (figures_after p r t o moved w).x i)
  between_stored i h = rw (x_at p (limits_of ok) r t o moved w i h) (go (moved i) refl)
    where
      go : (b : Bool) → moved i ≡ b → BetweenLevels p o.held.q i (cond b (o.x i) (int_at r.x i))
      go true e = lawful.between i h
      go false e =
          between_same p r.q i o.held.q (int_at r.x i) (keeps.output i h (keeps.not_woken i h (covers i h e)))
          (ok.integrators i h).between

  moved_then : (i : ℕ) → i < p.counts.n → cond (moved i) t (nat_at r.l i) ≤ t
  moved_then i h = go (moved i)
    where
      go : (b : Bool) → cond b t (nat_at r.l i) ≤ t
      go true = omega arith
      go false = omega (arith, lawful.after, (ok.integrators i h).moved)

  integrator_then : (i : ℕ) → i < p.counts.n → SoundIntegrator p (figures_after p r t o moved w) i
  unfolding figures_after due_then due_of
  integrator_then i h =
      let soon : t < never = omega (arith, lawful.until, ok.plan.horizon.1) in
      let slope = slope_at p r t o keeps moved covers w (limits_of ok) i h in
      let due = due_at p r ok t since o keeps moved covers w i h in
      record {
        moved = rw (l_at p (limits_of ok) r t o moved w i h) (moved_then i h);
        ahead = rw due (due_ahead_lem t _ _ _ _ soon);
        between = between_stored i h;
        slope = slope ∙ lawful.slope i h;
        due =
            rw (due, x_at p (limits_of ok) r t o moved w i h, l_at p (limits_of ok) r t o moved w i h, slope)
            (due_by_rule p r ok t since o keeps moved covers i h);
      }

  pub sound_then : w ≤ p.counts.n * o.held.instants → SoundRunning p (figures_after p r t o moved w)
  unfolding figures_after
  sound_then updates =
      record {
        plan = ok.plan;
        clock = lawful.until;
        integrators = integrator_then;
        held = lawful.held;
        updates = updates;
        plan-unused = ok.plan-unused;
        moved-unused =
            record {
              x = λ i h. row_unused (pos 0) 32 p.counts.n _ i h;
              s = λ i h. row_unused (pos 0) 32 p.counts.n _ i h;
              l = λ i h. row_unused 0 32 p.counts.n _ i h;
              d = λ i h. row_unused 0 32 p.counts.n _ i h;
            };
      }

-- ---- the engines
-- who is woken or reached at tick t
abbrev pub touched_at : (p : Plan) (r : Running) (t : ℕ) → ℕ → Bool
touched_at p r t = touched p t (is_due r.d t)

-- what an engine leaves alone is neither woken nor reached
pub covers : (p : Plan) (r : Running) (t : ℕ) (engine : Engine) → Covers p (touched_at p r t) (moved_at p r t engine)
unfolding moves
covers p r t Lazy i h e = e
covers p r t Eager i h e = absurd (true≢false e)

-- at a tick past the clock and up to the horizon, before which nothing is due, and at which the outputs given are within ±M
pub record Takes (p : Plan) (r : Running) (t : ℕ) : Type 0 where
  pub after : r.clocks.clock < t
  pub until : t ≤ p.horizon
  pub least : (i : ℕ) → i < p.counts.n → t ≤ nat_at r.d i
  pub within : (i : ℕ) → i < p.counts.n → gives (is_due r.d t) i ≡ true → ∣ position_at r t i ∣ ≤ M

module _ (p : Plan) (r : Running) (ok : SoundRunning p r) (t : ℕ) where
  abbrev due : ℕ → Bool
  due = is_due r.d t

  abbrev awake : ℕ → Bool
  awake = woken due

  abbrev there : ℕ → ℤ
  there = placed (position_at r t)

  abbrev outputs : List ℤ
  outputs = (outcome p r t).held.q

  -- before which nothing is due
  module _ (least : (i : ℕ) → i < p.counts.n → t ≤ nat_at r.d i) where
    not_yet : (i : ℕ) → i < p.counts.n → awake i ≡ false → t < nat_at r.d i
    unfolding is_due
    not_yet i h e = omega (arith, least i h, eqb-false (nat_at r.d i) t (woken-due due i e))

    pub keeps_then : Keeps p r t (outcome p r t) awake (touched_at p r t)
    keeps_then =
        record {
          output = output_kept p (limits_of ok) awake there r.q;
          place = λ i h e. x_then p (limits_of ok) awake there r.q i h ∙ placed_kept due i (position_at r t) e;
          later = not_yet;
          not_woken = λ i h e. touched-woken p t due i e;
          slope = λ i h e. slope_kept p (limits_of ok) t due (position_at r t) (held_of r) i e ∙ sym (ok.integrators i h).slope;
        }

  -- at which an instant is taken
  module _ (takes : Takes p r t) where
    at_output : (i : ℕ) → i < p.counts.n → int_at outputs i ≡ cond (awake i) (there i) (int_at r.q i)
    at_output = outputs_at p (limits_of ok) awake there r.q

    pub output-size : (i : ℕ) → i < p.counts.n → ∣ int_at outputs i ∣ ≤ M
    output-size i h = rw (at_output i h) (go (awake i) refl)
      where
        go : (b : Bool) → awake i ≡ b → ∣ cond b (there i) (int_at r.q i) ∣ ≤ M
        go true e = placed-size due i (position_at r t) e (takes.within i h)
        go false e = ok.held.outputs i h

    -- one that is woken stands at its output; the others stay between their levels
    between_output : (i : ℕ) → i < p.counts.n → BetweenLevels p outputs i (there i)
    between_output i h = go (awake i) refl (at_output i h)
      where
        go : (b : Bool) → awake i ≡ b → int_at outputs i ≡ cond b (there i) (int_at r.q i) → BetweenLevels p outputs i (there i)
        go true e at = between_itself p outputs i (ok.plan.integrators i h) (there i) at
        go false e at =
            rw (placed_kept due i (position_at r t) e)
            (between_same p r.q i outputs (position_at r t i) at
            (stays_inside p r ok i h t (omega (arith, takes.after)) (not_yet takes.least i h e)))

    pub lawful_then : Lawful p r t (outcome p r t)
    lawful_then =
        record {
          after = takes.after;
          until = takes.until;
          held = held_then_lem p ok.plan r.clocks.clock (held_of r) ok.held t due (position_at r t) takes.after output-size;
          between = λ i h. rw (x_then p (limits_of ok) awake there r.q i h) (between_output i h);
          slope = λ i h. refl;
        }

-- ---- the next instant: nothing is due before it, and that of a sound state lies past the clock
pub none-due_before : (p : Plan) (r : Running) (i : ℕ) → i < p.counts.n → next_tick_of p r ≤ nat_at r.d i
unfolding next_tick_of
none-due_before p r = tick-due p r.d (held_of r)

module _ (p : Plan) (r : Running) (ok : SoundRunning p r) where
  clock_soon : r.clocks.clock < never
  clock_soon = omega (arith, ok.clock, ok.plan.horizon.1)

  pub tick_after : r.clocks.clock < next_tick_of p r
  unfolding next_tick_of
  tick_after =
      tick-above p r.d (held_of r) (suc r.clocks.clock) clock_soon (λ i h. (ok.integrators i h).ahead)
      (entries_after p (held_of r) r.clocks.clock ok.held.next clock_soon)

  -- where the state is paused, that instant is taken
  pub takes_next : running_paused p r ≡ true → Takes p r (next_tick_of p r)
  takes_next paused =
      record {
        after = tick_after;
        until = tick-horizon p r paused;
        least = none-due_before p r;
        within = given_size p r paused;
      }

  pub instant-sound : running_paused p r ≡ true → (engine : Engine) → SoundRunning p (instant p engine r)
  unfolding instant
  instant-sound paused engine =
      let t = next_tick_of p r in let takes = takes_next paused in let who = moved_at p r t engine in
      sound_then p r ok t (outcome p r t) (lawful_then p r ok t takes) (keeps_then p r ok t takes.least) who
      (covers p r t engine) _ (omega (arith, ok.updates, count_of_le who p.counts.n))
