-- Promise: the limits, that the records of Limits.antt hold. A statement; the proof stands in Proofs.
use Rattle.std.specs.Prelude.{◌≡◌, List, ℕ, ◌≤◌, ◌<◌, ℤ, ◌<ℤ◌}
use Rattle.integers.specs.Parts.{∣◌∣}
use Rattle.words.specs.Word.{Bytes}
use Rattle.plan.specs.Numbers.{M}
use Rattle.plan.specs.Lists.{int_at}
use Rattle.plan.specs.Rules.{IntegratorRule, PlanRules}
use Rattle.plan.specs.declared.Plan.{Plan}
use Rattle.machine.specs.Due.{upper_level, lower_level}
use Rattle.machine.specs.Sound.{Sound}
use Rattle.machine.specs.declared.State.{State}
use Rattle.calls.specs.Calls.{load_of}
use Rattle.calls.specs.Limits.{AcceptedLimits, FileLimits, AnswerLimits, RateLimits, LevelLimits, StateLimits}

-- The limits, each from the least that it needs, and of states from soundness alone
pub record LimitPromise : Type 0 where
  pub accepted-files : (file : List ℕ) → (load_of file).number ≡ 0 → AcceptedLimits file
  pub files : (file : List ℕ) → Bytes file → FileLimits file
  pub rates : (p : Plan) (q u : List ℤ) → PlanRules p → ((i : ℕ) → i < p.counts.n → ∣ int_at q i ∣ ≤ M) → ((j : ℕ) → j < p.counts.m → ∣ int_at u j ∣ ≤ M)
      → RateLimits p q u
  pub levels : (p : Plan) (q : List ℤ) (i : ℕ) (x s : ℤ) → IntegratorRule p i → ∣ int_at q i ∣ ≤ M → lower_level p q i <ℤ x → x <ℤ upper_level p q i
      → LevelLimits p q i x s
  pub states : (st : State) → Sound st → StateLimits st.plan st.run
  pub answers : (st : State) → AnswerLimits st
