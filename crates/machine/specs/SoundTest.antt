-- Binding definition: "A sound state" as a test, which the calls that take a state try first. The counts are tested before anything that
-- they bound.
use Rattle.std.specs.Prelude.{Bool, ◌&&◌, ℕ, ◌*◌, ◌-ℤ◌, leb, ltb, eqb}
use Rattle.std.specs.Int.Signed.{lt_z}
use Rattle.integers.specs.Parts.{∣◌∣}
use Rattle.integers.specs.Range.{within}
use Rattle.plan.specs.Numbers.{M}
use Rattle.plan.specs.Lists.{nat_at, int_at, every}
use Rattle.plan.specs.Tests.{counts_kept}
use Rattle.plan.specs.Refusals.{is_clean, plan_finding}
use Rattle.plan.specs.Unused.{nats_zero_from, ints_zero_from, plan_unused_zero}
use Rattle.plan.specs.declared.Plan.{Plan}
use Rattle.machine.specs.Due.{upper_level, lower_level, due_of}
use Rattle.machine.specs.Next.{next_command}
use Rattle.machine.specs.Held.{Held, held_of, slope_of}
use Rattle.machine.specs.declared.Running.{Running}
use Rattle.machine.specs.declared.State.{State}

-- the plan of a state: its counts, its rules 4 to 9, its unused entries
unfoldable pub plan_sound : Plan → Bool
plan_sound p = counts_kept p && is_clean (plan_finding p) && plan_unused_zero p

-- what is held, at the clock
unfoldable pub held_sound : (p : Plan) (clock : ℕ) → Held → Bool
held_sound p clock h =
    every (λ i. within M (int_at h.q i)) p.counts.n
    && every (λ j. within M (int_at h.inputs j)) p.counts.m
    && eqb h.next (next_command p clock)
    && leb h.instants clock
    && ints_zero_from p.counts.n h.q && ints_zero_from p.counts.m h.inputs

module _ (p : Plan) (r : Running) where
  -- the unused entries of the figures that depend on who moves
  unfoldable pub moved_unused_zero : Bool
  moved_unused_zero =
      ints_zero_from p.counts.n r.x && ints_zero_from p.counts.n r.s && nats_zero_from p.counts.n r.l && nats_zero_from p.counts.n r.d

  -- "|x−q| < D" is tested as x strictly between the levels, since x may be any 64-bit number
  unfoldable pub integrator_sound : ℕ → Bool
  integrator_sound i =
      leb (nat_at r.l i) r.clocks.clock && ltb r.clocks.clock (nat_at r.d i)
      && lt_z (lower_level p r.q i) (int_at r.x i) && lt_z (int_at r.x i) (upper_level p r.q i)
      && eqb ∣ int_at r.s i -ℤ slope_of p (held_of r) i ∣ 0
      && eqb (nat_at r.d i) (due_of p r.q i (nat_at r.l i) (int_at r.x i) (int_at r.s i))

  unfoldable pub running_sound : Bool
  running_sound =
      leb r.clocks.clock p.horizon
      && every integrator_sound p.counts.n
      && held_sound p r.clocks.clock (held_of r)
      && leb r.clocks.updates (p.counts.n * r.clocks.instants)
      && moved_unused_zero

unfoldable pub is_sound : State → Bool
is_sound st = plan_sound st.plan && running_sound st.plan st.run
