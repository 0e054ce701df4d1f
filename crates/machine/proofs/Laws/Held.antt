-- Laws: what is held at the start and after an instant is sound; the slopes that it gives, and how large they are. Assumes nothing.
use Rattle.std.specs.Prelude.{◌≡◌, Bool, ℕ, ◌≤◌, ◌<◌, ℤ, pos}
use Rattle.std.proofs.Math.Path.{refl}
use Rattle.std.proofs.Common.{arith}
use Rattle.integers.specs.Parts.{∣◌∣}
use Rattle.plan.specs.Numbers.{M}
use Rattle.plan.specs.Lists.{int_at}
use Rattle.plan.specs.Rules.{PlanRules}
use Rattle.plan.specs.Unused.{PlanUnusedZero}
use Rattle.plan.proofs.Laws.Rows.{row_unused}
use Rattle.plan.proofs.Laws.TestMeanings.{within-size}
use Rattle.plan.specs.declared.Plan.{Plan}
use Rattle.machine.specs.Values.{slope_most, rate_of}
use Rattle.machine.specs.Held.{Held, slope_of, held_start, inputs_then}
use Rattle.machine.specs.Instant.{outputs_by, outcome_by}
use Rattle.machine.proofs.Laws.SoundClauses.{SoundHeld}
use Rattle.machine.proofs.Laws.Inputs.{inputs_then-size}
use Rattle.machine.proofs.Laws.Sizes.{rate-size}

-- ---- the start
pub start-held : (p : Plan) → PlanRules p → PlanUnusedZero p → SoundHeld p 0 (held_start p)
start-held p rules unused =
    record {
      outputs = λ i h. (within-size M _).0 (rules.integrators i h).start;
      inputs = rules.inputs;
      next = record { command = refl };
      instants = omega arith;
      unused_outputs = unused.starts;
      unused-inputs = unused.firsts;
    }

-- ---- what a slope is
pub slope_is : (p : Plan) (h : Held) (i : ℕ) → slope_of p h i ≡ rate_of p h.q h.inputs i
unfolding slope_of
slope_is p h i = refl

-- ---- how large slopes are, with outputs and inputs within ±M
pub slope-within : (p : Plan) → PlanRules p → (h : Held) → ((i : ℕ) → i < p.counts.n → ∣ int_at h.q i ∣ ≤ M)
    → ((j : ℕ) → j < p.counts.m → ∣ int_at h.inputs j ∣ ≤ M) → (i : ℕ) → ∣ slope_of p h i ∣ ≤ slope_most
unfolding slope_of
slope-within p rules h outputs inputs = rate-size p h.q h.inputs rules outputs inputs

pub start_slope-most : (p : Plan) → PlanRules p → (i : ℕ) → ∣ slope_of p (held_start p) i ∣ ≤ slope_most
start_slope-most p rules =
    slope-within p rules (held_start p) (λ i h. (within-size M _).0 (rules.integrators i h).start) (λ j h. (within-size M _).0 (rules.inputs j h))

-- ---- where what is held is sound
pub input-size : {p : Plan} {c : ℕ} {h : Held} → SoundHeld p c h → (j : ℕ) → j < p.counts.m → ∣ int_at h.inputs j ∣ ≤ M
input-size ok j l = (within-size M _).0 (ok.inputs j l)

module _ (p : Plan) (rules : PlanRules p) (c : ℕ) (h : Held) (ok : SoundHeld p c h) where
  pub slope_most_lem : (i : ℕ) → ∣ slope_of p h i ∣ ≤ slope_most
  slope_most_lem = slope-within p rules h ok.outputs (input-size ok)

  -- and after an instant, with the outputs after it within ±M
  pub held_then_lem : (t : ℕ) (due : ℕ → Bool) (place : ℕ → ℤ) → c < t
      → ((i : ℕ) → i < p.counts.n → ∣ int_at (outcome_by p t due place h).held.q i ∣ ≤ M) → SoundHeld p t (outcome_by p t due place h).held
  unfolding inputs_then outputs_by
  held_then_lem t due place after sized =
      record {
        outputs = sized;
        inputs = λ j l. (within-size M _).1 (inputs_then-size p rules h.inputs t (input-size ok) j l);
        next = record { command = refl };
        instants = omega (arith, ok.instants);
        unused_outputs = λ i l. row_unused (pos 0) 32 p.counts.n _ i l;
        unused-inputs = λ j l. row_unused (pos 0) 8 p.counts.m _ j l;
      }
