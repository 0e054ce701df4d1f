-- Laws: the test of a sound state means that the state is sound, by the clauses that the laws go by and in document 01's words. Assumes
-- nothing.
use Rattle.std.specs.Prelude.{◌≡◌, true, ◌↔◌, ℕ, ◌*◌, ◌<◌}
use Rattle.std.proofs.Common.{sym, ◌∙◌}
use Rattle.std.proofs.Math.Logic.Iff
use Rattle.integers.proofs.Laws.Order.{lt_z_true}
use Rattle.integers.proofs.Laws.Range.{within_true}
use Rattle.plan.specs.Numbers.{M}
use Rattle.plan.specs.Lists.{nat_at, int_at}
use Rattle.plan.specs.Rules.{PlanRules}
use Rattle.plan.specs.Unused.{PlanUnusedZero}
use Rattle.plan.specs.declared.Plan.{Plan}
use Rattle.plan.proofs.Laws.TestMeanings.{Means, leb_means, ltb_means, eqb_means, same_means, within_means, both, every_means}
use Rattle.plan.proofs.Laws.Entries.{unused_nat, unused_int, plan-unused}
use Rattle.plan.proofs.Laws.PlanRefusals.{plan-rules}
use Rattle.machine.specs.Due.{upper_level, lower_level, due_of}
use Rattle.machine.specs.Next.{next_command}
use Rattle.machine.specs.Held.{Held, held_of, slope_of}
use Rattle.machine.specs.Sound.{IntegratorInWords, SoundInWords, Sound}
use Rattle.machine.proofs.Laws.SoundClauses.{SoundHeld, SoundIntegrator, MovedUnusedZero, SoundRunning}
use Rattle.machine.specs.SoundTest.{plan_sound, held_sound, moved_unused_zero, integrator_sound, running_sound, is_sound}
use Rattle.machine.proofs.Laws.Held.{slope_is}
use Rattle.machine.proofs.Laws.BetweenLevels.{near_between}
use Rattle.machine.specs.declared.Running.{Running}
use Rattle.machine.specs.declared.State.{State}

-- ---- the plan
pub plan_means : (p : Plan) → Means (plan_sound p) (PlanRules p × PlanUnusedZero p)
unfolding plan_sound
plan_means p = both (Iff.trans (both Iff.rfl Iff.rfl) (plan-rules p)) (plan-unused p)

-- ---- what is held
held_means : (p : Plan) (clock : ℕ) (h : Held) → Means (held_sound p clock h) (SoundHeld p clock h)
unfolding held_sound
held_means p clock h =
    let values =
    both (every_means (λ i. within_true M (int_at h.q i)) p.counts.n) (every_means (λ j. within_means M (int_at h.inputs j)) p.counts.m) in
    let counted = both (both values (eqb_means h.next (next_command p clock))) (leb_means h.instants clock) in
    let all = both (both counted (unused_int p.counts.n h.q)) (unused_int p.counts.m h.inputs) in (
      λ t. let a = all.0 t in let c = a.0.0 in record {
        outputs = c.0.0.0;
        inputs = c.0.0.1;
        next = record { command = c.0.1 };
        instants = c.1;
        unused_outputs = a.0.1;
        unused-inputs = a.1;
      },
      λ s. all.1 (((((s.outputs, s.inputs), s.next.command), s.instants), s.unused_outputs), s.unused-inputs),
    )

-- ---- the integrators
module _ (p : Plan) (r : Running) where
  unused_means : Means (moved_unused_zero p r) (MovedUnusedZero p r)
  unfolding moved_unused_zero
  unused_means =
      let ints = both (unused_int p.counts.n r.x) (unused_int p.counts.n r.s) in
      let all = both (both ints (unused_nat p.counts.n r.l)) (unused_nat p.counts.n r.d) in (
        λ t. let h = all.0 t in record {
          x = h.0.0.0;
          s = h.0.0.1;
          l = h.0.1;
          d = h.1;
        },
        λ u. all.1 (((u.x, u.s), u.l), u.d),
      )

  integrator_means : (i : ℕ) → Means (integrator_sound p r i) (SoundIntegrator p r i)
  unfolding integrator_sound
  integrator_means i =
      let x = int_at r.x i in let s = int_at r.s i in let l = nat_at r.l i in let d = nat_at r.d i in
      let ticks = both (leb_means l r.clocks.clock) (ltb_means r.clocks.clock d) in
      let levels = both (both ticks (lt_z_true (lower_level p r.q i) x)) (lt_z_true x (upper_level p r.q i)) in
      let all = both (both levels (same_means s (slope_of p (held_of r) i))) (eqb_means d (due_of p r.q i l x s)) in (
        λ t. let h = all.0 t in let k = h.0.0 in record {
          moved = k.0.0.0;
          ahead = k.0.0.1;
          between = record { above = k.0.1; below = k.1 };
          slope = h.0.1;
          due = h.1;
        },
        λ h. all.1 (((((h.moved, h.ahead), h.between.above), h.between.below), h.slope), h.due),
      )

-- ---- the clauses
pub test_clauses : (st : State) → Means (is_sound st) (SoundRunning st.plan st.run)
unfolding is_sound running_sound
test_clauses st =
    let p = st.plan in let r = st.run in
    let integrators = both (leb_means r.clocks.clock p.horizon) (every_means (integrator_means p r) p.counts.n) in
    let counted = both (both integrators (held_means p r.clocks.clock (held_of r))) (leb_means r.clocks.updates (p.counts.n * r.clocks.instants)) in
    let all = both (plan_means p) (both counted (unused_means p r)) in (
      λ t. let h = all.0 t in let c = h.1.0 in record {
        plan = h.0.0;
        plan-unused = h.0.1;
        clock = c.0.0.0;
        integrators = c.0.0.1;
        held = c.0.1;
        updates = c.1;
        moved-unused = h.1.1;
      },
      λ s. all.1 ((s.plan, s.plan-unused), ((((s.clock, s.integrators), s.held), s.updates), s.moved-unused)),
    )

-- ---- in document 01's words
module _ (p : Plan) (r : Running) where
  integrator_words_lem : (i : ℕ) → i < p.counts.n → SoundRunning p r → IntegratorInWords p r i
  integrator_words_lem i h c =
      let own = c.integrators i h in
      record {
        moved = own.moved;
        ahead = own.ahead;
        output = c.held.outputs i h;
        near = (near_between p r.q i (int_at r.x i)).1 own.between;
        rate = own.slope ∙ slope_is p (held_of r) i;
        due = own.due;
      }

  integrator_clauses : (i : ℕ) → IntegratorInWords p r i → SoundIntegrator p r i
  integrator_clauses i w =
      record {
        moved = w.moved;
        ahead = w.ahead;
        between = (near_between p r.q i (int_at r.x i)).0 w.near;
        slope = w.rate ∙ sym (slope_is p (held_of r) i);
        due = w.due;
      }

  pub clauses_words : SoundRunning p r → SoundInWords p r
  clauses_words c =
      record {
        plan = c.plan;
        clock = c.clock;
        integrators = λ i h. integrator_words_lem i h c;
        inputs = c.held.inputs;
        next = c.held.next.command;
        instants = c.held.instants;
        updates = c.updates;
        plan-unused = c.plan-unused;
        running_unused = record {
          x = c.moved-unused.x;
          q = c.held.unused_outputs;
          s = c.moved-unused.s;
          l = c.moved-unused.l;
          d = c.moved-unused.d;
          inputs = c.held.unused-inputs;
        };
      }

  pub words_clauses : SoundInWords p r → SoundRunning p r
  words_clauses w =
      record {
        plan = w.plan;
        clock = w.clock;
        integrators = λ i h. integrator_clauses i (w.integrators i h);
        held = record {
          outputs = λ i h. (w.integrators i h).output;
          inputs = w.inputs;
          next = record { command = w.next };
          instants = w.instants;
          unused_outputs = w.running_unused.q;
          unused-inputs = w.running_unused.inputs;
        };
        updates = w.updates;
        plan-unused = w.plan-unused;
        moved-unused = record {
          x = w.running_unused.x;
          s = w.running_unused.s;
          l = w.running_unused.l;
          d = w.running_unused.d;
        };
      }

pub sound_means : (st : State) → (is_sound st ≡ true) ↔ Sound st
sound_means st = (
  λ t. clauses_words st.plan st.run ((test_clauses st).0 t),
  λ s. (test_clauses st).1 (words_clauses st.plan st.run s),
)
