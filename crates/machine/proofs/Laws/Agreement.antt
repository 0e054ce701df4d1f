-- Laws: an instant of either engine and one of the plain machine, from states that agree, lead to states that agree; and what is read from
-- such states is the same. Assumes nothing.
use Rattle.std.specs.Prelude.{◌≡◌, refl, Bool, ℕ, ◌+◌, ◌-◌, ◌≤◌, ◌<◌, ℤ, ◌+ℤ◌, ◌*ℤ◌}
use Rattle.std.proofs.Math.Path.{sym, ap, ap₂}
use Rattle.std.proofs.Common.{◌∙◌, arith}
use Rattle.std.proofs.Math.IntN.{pos}
use Rattle.integers.proofs.Laws.Parts.{sum, prod, zs}
use Rattle.plan.specs.Lists.{nat_at, int_at}
use Rattle.plan.proofs.Laws.Rows.{row_at, row_ext}
use Rattle.plan.specs.declared.Plan.{Plan}
use Rattle.machine.specs.Held.{held_of, next_tick}
use Rattle.machine.specs.Start.{start_slope, start_due, start_of}
use Rattle.machine.specs.Reach.{is_due}
use Rattle.machine.specs.Instant.{position_at, Outcome, due_then, figures_after, outcome, moved_at, next_tick_of, instant, events_of}
use Rattle.machine.specs.Status.{status_of}
use Rattle.machine.specs.Runs.{position_of}
use Rattle.machine.specs.Plain.{Plain, settled, plain_start, plain_next_tick, plain_position, plain_outcome, plain_instant, plain_events_of, plain_status}
use Rattle.machine.proofs.Laws.SoundClauses.{SoundRunning, limits_of}
use Rattle.machine.proofs.Laws.InstantByRule.{Keeps, Covers, slopes_then, dues_then, place_then}
use Rattle.machine.proofs.Laws.Soundness.{covers, keeps_then, none-due_before, tick_after}
use Rattle.machine.proofs.Laws.Alike.{Alike, outcomes_alike, status-alike}
use Rattle.machine.proofs.Laws.OutcomeEvents.{events-alike}
use Rattle.machine.specs.declared.Running.{Running}
use Rattle.machine.specs.declared.Engine.{Engine}

-- the plain machine brought forward: at its own clock or later, on everything but l, the stored x, updates and the clock
pub record Forward (p : Plan) (r : Running) (m : Plain) : Type 0 where
  pub held : held_of r ≡ m.held
  pub s : r.s ≡ m.s
  pub d : r.d ≡ m.d
  pub behind : m.clock ≤ r.clocks.clock
  pub place : (i : ℕ) → i < p.counts.n → position_of r i ≡ int_at m.x i +ℤ int_at m.s i *ℤ pos (r.clocks.clock - m.clock)

-- "Plain machine and engines are compared on everything but l, the stored x and updates": the case of equal clocks
pub record Agrees (p : Plan) (r : Running) (m : Plain) : Type 0 where
  pub forward : Forward p r m
  pub clock : r.clocks.clock ≡ m.clock

unmoved : (x s : ℤ) (a b : ℕ) → a ≤ b → x +ℤ s *ℤ pos (a - b) ≡ x
unmoved x s a b h = let none : a - b ≡ 0 = omega arith in rw none (omega (arith, zs, prod s (pos 0), sum x (s *ℤ pos 0)))

in_two : (x s : ℤ) (a b : ℕ) → x +ℤ s *ℤ pos (a + b) ≡ x +ℤ s *ℤ pos a +ℤ s *ℤ pos b
in_two x s a b =
    let y = x +ℤ s *ℤ pos a in
    omega (arith, zs, prod s (pos (a + b)), prod s (pos a), prod s (pos b), sum x (s *ℤ pos (a + b)), sum x (s *ℤ pos a), sum y (s *ℤ pos b))

-- where the clocks are equal: from positions that are the plain machine's to what `Forward` says of them, and back
stands : (p : Plan) (r : Running) (m : Plain) → r.clocks.clock ≡ m.clock → ((i : ℕ) → i < p.counts.n → position_of r i ≡ int_at m.x i)
    → (i : ℕ) → i < p.counts.n → position_of r i ≡ int_at m.x i +ℤ int_at m.s i *ℤ pos (r.clocks.clock - m.clock)
stands p r m e place i h = place i h ∙ sym (unmoved (int_at m.x i) (int_at m.s i) r.clocks.clock m.clock (omega arith))

pub place_of : (p : Plan) (r : Running) (m : Plain) → Agrees p r m → (i : ℕ) → i < p.counts.n → position_of r i ≡ int_at m.x i
place_of p r m a i h =
    a.forward.place i h ∙ unmoved (int_at m.x i) (int_at m.s i) r.clocks.clock m.clock (omega (arith, a.clock))

-- ---- whoever moves: the state after an outcome agrees with the plain machine after one like it
module _ (p : Plan) (r : Running) (ok : SoundRunning p r) (t : ℕ) (since : r.clocks.clock ≤ t) (o : Outcome)
    {awake touched : ℕ → Bool} (keeps : Keeps p r t o awake touched) (moved : ℕ → Bool) (covers : Covers p touched moved) (w : ℕ)
    {t' : ℕ} (o' : Outcome) (same-t : t ≡ t') (alike : Alike p o o') where
  same_due : (i : ℕ) → i < p.counts.n → due_then p t o i ≡ due_then p t' o' i
  unfolding due_then
  same_due i h = rw (alike.held, alike.x i h, alike.s i h, same-t)

  agrees_by : Agrees p (figures_after p r t o moved w) (settled p t' o')
  unfolding figures_after settled position_of
  agrees_by =
      record {
        clock = same-t;
        forward = record {
          held = alike.held;
          s = slopes_then p r t o keeps moved covers w ∙ row_ext (pos 0) 32 p.counts.n _ _ alike.s;
          d = dues_then p r ok t since o keeps moved covers w ∙ row_ext 0 32 p.counts.n _ _ same_due;
          behind = omega arith;
          place = stands p (figures_after p r t o moved w) (settled p t' o') same-t (λ i h.
              place_then p r t o keeps moved covers w (limits_of ok) i h ∙ alike.x i h
              ∙ sym (row_at (pos 0) 32 p.counts.n o'.x i (limits_of ok).n h));
        };
      }

-- ---- the next instant of states that agree: its tick, and who is due there
module _ (p : Plan) (r : Running) (m : Plain) (a : Forward p r m) where
  pub same_tick : next_tick_of p r ≡ plain_next_tick p m
  unfolding next_tick_of plain_next_tick
  same_tick = ap₂ (next_tick p) a.d a.held

  pub same_dues : (i : ℕ) → i < p.counts.n → is_due r.d (next_tick_of p r) i ≡ is_due m.d (plain_next_tick p m) i
  same_dues i h = rw (same_tick, a.d)

-- ---- where the state is sound
module _ (p : Plan) (r : Running) (ok : SoundRunning p r) where
  tick_from : r.clocks.clock ≤ next_tick_of p r
  tick_from = omega (arith, tick_after p r ok)

  -- a later position, from the one at the clock
  later : (t i : ℕ) → r.clocks.clock ≤ t → i < p.counts.n → position_at r t i ≡ position_of r i +ℤ int_at r.s i *ℤ pos (t - r.clocks.clock)
  unfolding position_of position_at
  later t i h l =
      let split : t - nat_at r.l i ≡ (r.clocks.clock - nat_at r.l i) + (t - r.clocks.clock) = omega (arith, (ok.integrators i l).moved) in
      rw split (in_two (int_at r.x i) (int_at r.s i) (r.clocks.clock - nat_at r.l i) (t - r.clocks.clock))

  module _ (m : Plain) (a : Forward p r m) where
    pub same_position : (i : ℕ) → i < p.counts.n → position_at r (next_tick_of p r) i ≡ plain_position p m i
    unfolding plain_position
    same_position i h =
        later (next_tick_of p r) i tick_from h
        ∙ ap₂ (λ y s. y +ℤ int_at s i *ℤ pos (next_tick_of p r - r.clocks.clock)) (a.place i h) a.s
        ∙ sym (in_two (int_at m.x i) (int_at m.s i) (r.clocks.clock - m.clock) (next_tick_of p r - r.clocks.clock))
        ∙ ap (λ e. int_at m.x i +ℤ int_at m.s i *ℤ pos e) between
        ∙ ap (λ t. int_at m.x i +ℤ int_at m.s i *ℤ pos (t - m.clock)) (same_tick p r m a)
      where
        between : (r.clocks.clock - m.clock) + (next_tick_of p r - r.clocks.clock) ≡ next_tick_of p r - m.clock
        between = omega (arith, a.behind, tick_from)

    -- ---- what is read from the state
    pub same_status : status_of p r ≡ plain_status p m
    unfolding status_of plain_status
    same_status = status-alike p (same_dues p r m a) (same_tick p r m a) same_position

    same_outcome : Alike p (outcome p r (next_tick_of p r)) (plain_outcome p m)
    same_outcome = outcomes_alike p (same_dues p r m a) (same_tick p r m a) same_position a.held

    pub same_events : events_of p r ≡ plain_events_of p m
    unfolding events_of plain_events_of
    same_events = events-alike p (same_dues p r m a) (same_tick p r m a) same_position a.held

    -- ---- one instant
    pub agrees_then : (engine : Engine) → Agrees p (instant p engine r) (plain_instant p m)
    unfolding instant plain_instant
    agrees_then engine =
        let t = next_tick_of p r in
        agrees_by p r ok t tick_from (outcome p r t) (keeps_then p r ok t (none-due_before p r)) (moved_at p r t engine)
        (covers p r t engine) _ (plain_outcome p m) (same_tick p r m a) same_outcome

-- ---- the start
pub start_agrees : (p : Plan) → p.counts.n ≤ 32 → Agrees p (start_of p) (plain_start p)
unfolding start_of start_slope start_due plain_start settled due_then position_of position_at
start_agrees p wide =
    record {
      clock = refl;
      forward = record {
        held = refl;
        s = refl;
        d = refl;
        behind = omega arith;
        place = stands p (start_of p) (plain_start p) refl (λ i h.
            unmoved (int_at p.integrators.starts i) (int_at (start_of p).s i) 0 (nat_at (start_of p).l i) (omega arith)
            ∙ sym (row_at (pos 0) 32 p.counts.n (int_at p.integrators.starts) i wide h));
      };
    }
