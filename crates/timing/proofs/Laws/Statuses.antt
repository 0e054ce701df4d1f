-- Laws: the code's status is that of document 01 for a sound state, and what working it out asks. Assumes nothing.
use Rattle.std.specs.Prelude.{◌≡◌, Bool, true, ℕ, ◌≤◌, ◌<◌}
use Rattle.std.proofs.Common.{arith}
use Rattle.bitset.specs.Mask.{has, mask_of}
use Rattle.bitset.proofs.Laws.Bits.{has-mask_of, member_below, member_passes}
use Rattle.plan.specs.Lists.{nat_at, int_at, first_from}
use Rattle.plan.proofs.Laws.Searches.{first_ext}
use Rattle.plan.specs.declared.Plan.{Plan}
use Rattle.machine.specs.Reach.{is_due, gives}
use Rattle.machine.specs.Instant.{position_at, next_tick_of}
use Rattle.machine.specs.Status.{bars, barring, status_by, status_at, status_of}
use Rattle.machine.proofs.Laws.SoundClauses.{SoundRunning}
use Rattle.machine.proofs.Laws.Levels.{inside_size}
use Rattle.machine.proofs.Laws.Positions.{inside, moved_before, elapsed-size}
use Rattle.machine.proofs.Laws.Soundness.{tick_after}
use Rattle.machine.proofs.Laws.Woken.{gives_means}
use Rattle.machine.specs.declared.Running.{Running}
use Rattle.timing.specs.Ticks.{PositionReady}
use Rattle.timing.specs.Status.{bars_in, DuePositionsReady}

module _ (p : Plan) (r : Running) where
  -- ---- what positions ask
  pub ready_at : SoundRunning p r → (t : ℕ) → r.clocks.clock ≤ t → (i : ℕ) → i < p.counts.n → t ≤ nat_at r.d i
      → PositionReady (int_at r.x i) (int_at r.s i) (nat_at r.l i) t
  ready_at ok t since i used early =
      record {
        since = moved_before p r ok i used t since;
        small =
            omega (
              arith,
              inside_size p r.q i (ok.plan.integrators i used) (ok.held.outputs i used) (int_at r.x i) (inside p r ok i used),
            );
        move = omega (arith, elapsed-size p r ok i used t since early);
      }

  -- those that give their positions as outputs at t
  abbrev giving : ℕ → ℕ → Bool
  giving t = gives (is_due r.d t)

  -- a bit of their mask is an integrator that is due there
  given_bit : (t i : ℕ) → has (mask_of (giving t) p.counts.n) i ≡ true → (i < p.counts.n) × (nat_at r.d i ≡ t)
  given_bit t i e = (member_below (giving t) p.counts.n i e, (gives_means r.d t i).0 (member_passes (giving t) p.counts.n i e))

  pub given_ready_from : SoundRunning p r → {t given : ℕ} → r.clocks.clock ≤ t → given ≡ mask_of (giving t) p.counts.n
      → DuePositionsReady t given r.x r.s r.l
  given_ready_from ok {t} since e =
      record { ready = λ i b. let h = given_bit t i (rw e at b) in ready_at ok t since i h.0 (omega (arith, h.1)) }

  -- at the next instant, which lies past the clock
  pub given_ready : SoundRunning p r → {t given : ℕ} → t ≡ next_tick_of p r → given ≡ mask_of (giving t) p.counts.n
      → DuePositionsReady t given r.x r.s r.l
  given_ready ok e = given_ready_from ok (omega (arith, tick_after p r ok))

  -- ---- the status
  pub barring_by_mask : (t : ℕ) {given : ℕ} → given ≡ mask_of (giving t) p.counts.n
      → first_from (bars_in t given r.x r.s r.l) 0 p.counts.n ≡ barring p (giving t) (position_at r t)
  unfolding barring bars bars_in position_at
  barring_by_mask t e = rw e (first_ext _ _ 0 p.counts.n (λ i h. rw (has-mask_of (giving t) p.counts.n i (omega arith))))

  -- what `status_at` says for their mask
  pub status_by_mask : {t given : ℕ} → t ≡ next_tick_of p r → given ≡ mask_of (giving t) p.counts.n
      → status_by p.horizon p.counts.n t (first_from (bars_in t given r.x r.s r.l) 0 p.counts.n) ≡ status_of p r
  unfolding status_at status_of
  status_by_mask e d = rw (barring_by_mask _ d, e)
