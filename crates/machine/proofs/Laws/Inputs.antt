-- Laws: the inputs after the commands of a tick, and the value that an event of the tick tells. Assumes nothing.
use Rattle.std.specs.Prelude.{◌≡◌, false, List, ℕ, zero, ◌+◌, ◌-◌, ◌≤◌, ◌<◌, ℤ, pos}
use Rattle.std.proofs.Common.{◌∙◌}
use native.Mathlib.Omega.{arith}
use borrow.Author.Tests.{lt-ltb, le-ltb}
use Rattle.integers.specs.Parts.{∣◌∣}
use Rattle.plan.specs.Numbers.{M}
use Rattle.plan.specs.Lists.{nat_at, int_at}
use Rattle.plan.specs.Rules.{PlanRules}
use Rattle.plan.proofs.Laws.Rows.{row_at}
use Rattle.plan.proofs.Laws.CountLimits.{count-limits}
use Rattle.plan.proofs.Laws.TestMeanings.{means_false, within-size}
use Rattle.plan.specs.declared.Plan.{Plan}
use Rattle.machine.specs.Values.{value_with}
use Rattle.machine.specs.Reach.{is_commanded}
use Rattle.machine.specs.Held.{input_then, inputs_then}
use Rattle.machine.proofs.Laws.Entries.{set_holds, set-none, set_of}
use Rattle.machine.proofs.Laws.Reach.{commanded_means}

-- an input that no command sets
pub input_kept_lem : (p : Plan) (u : List ℤ) (t j : ℕ) → p.counts.m ≤ 8 → j < p.counts.m → is_commanded p t j ≡ false → int_at (inputs_then p u t) j ≡ int_at u j
unfolding inputs_then is_commanded
input_kept_lem p u t j h l e =
    row_at (pos 0) 8 p.counts.m _ j h l
    ∙ set-none p.commands.ticks p.commands.inputs p.commands.values t j (int_at u j) p.counts.commands e

module _ (p : Plan) (rules : PlanRules p) (u : List ℤ) (t : ℕ) where
  input_then_at : (j : ℕ) → j < p.counts.m → int_at (inputs_then p u t) j ≡ input_then p u t j p.counts.commands
  unfolding inputs_then
  input_then_at j h = row_at (pos 0) 8 p.counts.m _ j (count-limits p rules.counts).m h

  pub input-set : (j e : ℕ) → j < p.counts.m → e < p.counts.commands → nat_at p.commands.ticks e ≡ t → nat_at p.commands.inputs e ≡ j
      → int_at (inputs_then p u t) j ≡ int_at p.commands.values e
  input-set j e input h tick number =
      input_then_at j input
      ∙ set_of p.commands.ticks p.commands.inputs p.commands.values t j (int_at u j) p.counts.commands
      (λ e h. (rules.commands e h).order) e h tick number

  pub input-not_set : (j : ℕ) → j < p.counts.m → ((e : ℕ) → e < p.counts.commands → nat_at p.commands.ticks e ≡ t → nat_at p.commands.inputs e ≡ j → ⊥)
      → int_at (inputs_then p u t) j ≡ int_at u j
  input-not_set j h none =
      input_kept_lem p u t j (count-limits p rules.counts).m h (means_false (commanded_means p t j).0 (λ f. none f.0 f.1 f.2 f.3))

  pub inputs_then-size : ((j : ℕ) → j < p.counts.m → ∣ int_at u j ∣ ≤ M) → (j : ℕ) → j < p.counts.m → ∣ int_at (inputs_then p u t) j ∣ ≤ M
  inputs_then-size sized j h =
      rw (input_then_at j h)
      (set_holds p.commands.ticks p.commands.inputs p.commands.values t j (int_at u j) (λ y. ∣ y ∣ ≤ M) p.counts.commands
      (λ e l s. (within-size M (int_at p.commands.values e)).0 (rules.commands e l).value) (λ none. sized j h))

-- ---- the values of integrators and inputs
module _ (p : Plan) (q u : List ℤ) where
  pub output-value : (i : ℕ) → i < p.counts.n → value_with p q u zero i ≡ int_at q i
  unfolding value_with
  output-value i h = rw (lt-ltb i p.counts.n h)

  pub input-value : (j : ℕ) → j < p.counts.m → value_with p q u zero (p.counts.n + j) ≡ int_at u j
  unfolding value_with
  input-value j h =
      let same : p.counts.n + j - p.counts.n ≡ j = omega arith in
      rw (le-ltb (p.counts.n + j) p.counts.n (omega arith), lt-ltb (p.counts.n + j) (p.counts.n + p.counts.m) (omega arith), same)
