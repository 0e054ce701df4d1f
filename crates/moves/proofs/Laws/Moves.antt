-- Laws: the walk over a mask of integrators moves them as document 01 asks, and what it asks holds at an instant of a sound state. Assumes
-- nothing.
use Rattle.std.specs.Prelude.{◌≡◌, refl, Bool, cond, List, ℕ, ◌+◌, ◌-◌, ◌≤◌, ◌<◌, ℤ, pos, ◌+ℤ◌, ◌*ℤ◌}
use Rattle.std.proofs.Math.Path.{sym}
use Rattle.std.proofs.Common.{ap, ◌∙◌, arith}
use Rattle.std.proofs.Math.Bool.{true, false}
use Rattle.integers.specs.Parts.{∣◌∣}
use Rattle.bitset.specs.Mask.{has, mask_of, each}
use Rattle.bitset.proofs.Laws.Bits.{member_below, member_passes}
use Rattle.plan.specs.Numbers.{M}
use Rattle.plan.specs.Lists.{nat_at, int_at, row}
use Rattle.plan.proofs.Laws.CountLimits.{CountLimits, count-limits}
use Rattle.plan.specs.declared.Plan.{Plan}
use Rattle.machine.specs.Values.{value_of}
use Rattle.machine.specs.Instant.{position_at, Outcome, due_then, figures_after}
use Rattle.machine.specs.Sound.{RunningWidths}
use Rattle.machine.proofs.Laws.SoundClauses.{SoundRunning}
use Rattle.machine.proofs.Laws.Values.{integrator-value}
use Rattle.machine.proofs.Laws.Soundness.{Lawful}
use Rattle.machine.specs.declared.Motion.{Motion}
use Rattle.machine.specs.declared.Running.{Running}
use Rattle.rates.specs.Links.{ranges_of}
use Rattle.rates.proofs.Laws.OwnRange.{own-rated, own-slope}
use Rattle.timing.specs.Ticks.{PositionReady}
use Rattle.timing.proofs.Laws.Statuses.{ready_at}
use Rattle.timing.proofs.Laws.Dues.{level-ready_then, due-ready_then, due_is_then}
use Rattle.moves.specs.Motion.{motion_of, position_then, slope_from, due_from, after_move, AllMovable}
use Rattle.moves.proofs.Laws.Moving.{Figures, figures_at, Full, moved_figures, move_full, move-own, move_others}
use Rattle.steps.proofs.Laws.MaskLoops.{Stores, Visited, visited, row_is}

motion_is : (m : Motion) {x s : List ℤ} {l d : List ℕ} → m.x ≡ x → m.s ≡ s → m.l ≡ l → m.d ≡ d
    → m ≡ record m { x = x; s = s; l = l; d = d }
motion_is m a b c e = rw (← a, ← b, ← c, ← e)

-- ---- any walk over a mask, as four rows
module _ (p : Plan) (ranges : List ℕ) (t : ℕ) (values : List ℤ) where
  abbrev move : ℕ → Motion → Motion
  move = after_move p ranges t values

  abbrev figures : ℕ → Figures → Figures
  figures = moved_figures p ranges t values

  figures-stored : Stores move figures_at figures Full 32
  figures-stored =
      record {
        kept = move_full p ranges t values;
        own = move-own p ranges t values;
        others = move_others p ranges t values;
      }

  -- f i are integrator i's figures behind the walk
  pub moved_rows : (moved : ℕ → Bool) (n : ℕ) → n ≤ 32 → (m : Motion) → Full m
      → ((i : ℕ) → n ≤ i → figures_at m i ≡ record { x = pos 0; s = pos 0; l = 0; d = 0 })
      → (f : ℕ → Figures) → ((i : ℕ) → i < n → cond (moved i) (figures i (figures_at m i)) (figures_at m i) ≡ f i)
      → each move (has (mask_of moved n)) 32 m
      ≡ record m {
        x = row (pos 0) 32 n (λ i. (f i).x);
        s = row (pos 0) 32 n (λ i. (f i).s);
        l = row 0 32 n (λ i. (f i).l);
        d = row 0 32 n (λ i. (f i).d);
      }
  moved_rows moved n few m full unused f e =
      motion_is after
      (row_is (pos 0) 32 n _ after.x w.full.x (λ i h. ap (λ (g : Figures). g.x) (past i h)) (λ i h. ap (λ (g : Figures). g.x) (at i h)))
      (row_is (pos 0) 32 n _ after.s w.full.s (λ i h. ap (λ (g : Figures). g.s) (past i h)) (λ i h. ap (λ (g : Figures). g.s) (at i h)))
      (row_is 0 32 n _ after.l w.full.l (λ i h. ap (λ (g : Figures). g.l) (past i h)) (λ i h. ap (λ (g : Figures). g.l) (at i h)))
      (row_is 0 32 n _ after.d w.full.d (λ i h. ap (λ (g : Figures). g.d) (past i h)) (λ i h. ap (λ (g : Figures). g.d) (at i h)))
    where
      after : Motion
      after = each move (has (mask_of moved n)) 32 m

      w : Visited figures_at figures Full moved n m after
      w = visited figures-stored moved m full n 32 few few

      past : (i : ℕ) → n ≤ i → figures_at after i ≡ record { x = pos 0; s = pos 0; l = 0; d = 0 }
      past i h = w.past i h ∙ unused i h

      at : (i : ℕ) → i < n → figures_at after i ≡ f i
      at i h = w.at i h ∙ e i h

-- ---- at an instant with the outcome o, in which the integrators of a test move: what is stored before the walk takes each of these to its
-- place in the outcome, and of the others it is what the state has
pub record Stored (p : Plan) (r : Running) (t : ℕ) (o : Outcome) (moved : ℕ → Bool) (m : Motion) : Type 0 where
  pub full : Full m
  pub unused : (i : ℕ) → p.counts.n ≤ i → figures_at m i ≡ record { x = pos 0; s = pos 0; l = 0; d = 0 }
  pub ready : (i : ℕ) → i < p.counts.n → moved i ≡ true → PositionReady (int_at m.x i) (int_at m.s i) (nat_at m.l i) t
  pub place : (i : ℕ) → i < p.counts.n → moved i ≡ true → int_at m.x i +ℤ int_at m.s i *ℤ pos (t - nat_at m.l i) ≡ o.x i
  pub kept : (i : ℕ) → i < p.counts.n → moved i ≡ false → figures_at m i ≡ figures_at (motion_of r) i

-- the state's own figures do, where no integrator is due before t and the outcome has each at its position
pub own-stored : (p : Plan) (r : Running) → SoundRunning p r → RunningWidths r → (t : ℕ) → r.clocks.clock ≤ t
    → ((i : ℕ) → i < p.counts.n → t ≤ nat_at r.d i) → (o : Outcome) → ((i : ℕ) → i < p.counts.n → o.x i ≡ position_at r t i)
    → (moved : ℕ → Bool) → Stored p r t o moved (motion_of r)
unfolding position_at
own-stored p r sound shaped t since least o at_position moved =
    let u = sound.moved-unused in
    record {
      full = record { x = shaped.x; s = shaped.s; l = shaped.l; d = shaped.d };
      unused = λ i h. rw (u.x i h, u.s i h, u.l i h, u.d i h);
      ready = λ i h e. ready_at p r sound t since i h (least i h);
      place = λ i h e. sym (at_position i h);
      kept = λ i h e. refl;
    }

-- `values` holds the values of all sources after the instant
module _ (p : Plan) (r : Running) (sound : SoundRunning p r) (t : ℕ) (o : Outcome) (lawful : Lawful p r t o) (values : List ℤ)
    (same : (i : ℕ) → i < p.counts.n + p.counts.m + p.counts.k → int_at values i ≡ value_of p o.held.q o.held.inputs i)
    (moved : ℕ → Bool) (m : Motion) (stored : Stored p r t o moved m) where
  limits : CountLimits p
  limits = count-limits p sound.plan.counts

  output : (i : ℕ) → i < p.counts.n → int_at values i ≡ int_at o.held.q i
  output i h = same i (omega arith) ∙ integrator-value p o.held.q o.held.inputs i h

  slope : (i : ℕ) → i < p.counts.n → slope_from p (ranges_of p) t values i ≡ o.s i
  unfolding slope_from
  slope i h = own-slope p sound.plan values o.held same i h ∙ sym (lawful.slope i h)

  pub all_movable : ((i : ℕ) → ∣ int_at values i ∣ ≤ M)
      → AllMovable p (ranges_of p) t values (mask_of moved p.counts.n) m
  unfolding position_then
  all_movable sized i e =
      let h = member_below moved p.counts.n i e in let mover = member_passes moved p.counts.n i e in
      record {
        used = omega (arith, limits.n);
        rated = own-rated p sound.plan values sized i h;
        position = stored.ready i h mover;
        level = rw (output i h) (level-ready_then p r sound t o lawful i h);
        due = rw (stored.place i h mover, output i h, slope i h) (due-ready_then p r sound t o lawful i h);
      }

  -- integrator i's figures behind the instant, by whether it moves
  abbrev figures_then : ℕ → Bool → Figures
  figures_then i b =
      record {
        x = cond b (o.x i) (int_at r.x i);
        s = cond b (o.s i) (int_at r.s i);
        l = cond b t (nat_at r.l i);
        d = cond b (due_then p t o i) (nat_at r.d i);
      }

  figures_then_lem : (i : ℕ) → i < p.counts.n → (b : Bool) → moved i ≡ b
      → cond b (moved_figures p (ranges_of p) t values i (figures_at m i)) (figures_at m i)
      ≡ figures_then i b
  unfolding moved_figures due_from
  figures_then_lem i h true e = rw (stored.place i h e, slope i h, output i h, ← due_is_then p t o i)
  figures_then_lem i h false e = stored.kept i h e

  pub moved-figures : (w : ℕ)
      → each (after_move p (ranges_of p) t values) (has (mask_of moved p.counts.n)) 32 m
      ≡ motion_of (figures_after p r t o moved w)
  unfolding figures_after
  moved-figures w =
      moved_rows p (ranges_of p) t values moved p.counts.n limits.n m
      stored.full stored.unused (λ i. figures_then i (moved i)) (λ i h. figures_then_lem i h (moved i) refl)
