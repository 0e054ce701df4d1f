-- Laws: what the parts of a start ask and come to, for a plan that keeps its rules. Assumes nothing.
use Rattle.std.specs.Prelude.{◌≡◌, refl, Bool, true, false, cond, List, ℕ, ◌≤◌, ◌<◌, ℤ, pos, ltb, replicate}
use Rattle.std.proofs.Common.{sym, ◌∙◌}
use Rattle.integers.specs.Parts.{∣◌∣}
use Rattle.plan.specs.Numbers.{M}
use Rattle.plan.specs.Lists.{int_at, row}
use Rattle.plan.specs.Rules.{PlanRules}
use Rattle.plan.proofs.Laws.CountLimits.{count-limits}
use Rattle.plan.proofs.Laws.TestMeanings.{within-size}
use Rattle.plan.proofs.Laws.Rows.{table_ext, row_at, row_ext, row_none}
use Rattle.plan.specs.declared.Plan.{Plan}
use Rattle.machine.specs.Next.{next_command}
use Rattle.machine.specs.Held.{running_by}
use Rattle.machine.specs.Start.{start_slope, start_due, start_of}
use Rattle.machine.specs.declared.Running.{Running}
use Rattle.timing.proofs.Laws.Dues.{level-ready-start, due-ready-start, due_is_start}
use Rattle.starts.specs.Starting.{first_due, StartsReady}

-- an array of zeros, however many entries are used
zeros : (w k : ℕ) → replicate {A = ℕ} w 0 ≡ row 0 w k (λ i. 0)
unfolding row
zeros w k = row_none 0 w (λ i. 0) ∙ table_ext w _ _ (λ i h. same (ltb i 0) ∙ sym (same (ltb i k)))
  where
    same : (b : Bool) → cond {A = ℕ} b 0 0 ≡ 0
    same true = refl
    same false = refl

module _ (p : Plan) (rules : PlanRules p) where
  -- ---- what is held at first
  pub first_outputs : (i : ℕ) → i < p.counts.n → ∣ int_at p.integrators.starts i ∣ ≤ M
  first_outputs i h = (within-size M (int_at p.integrators.starts i)).0 (rules.integrators i h).start

  pub first-inputs : (j : ℕ) → j < p.counts.m → ∣ int_at p.inputs.firsts j ∣ ≤ M
  first-inputs j h = (within-size M (int_at p.inputs.firsts j)).0 (rules.inputs j h)

  -- ---- the due ticks
  module _ {s : List ℤ} (slopes : s ≡ row (pos 0) 32 p.counts.n (start_slope p)) where
    slope_at : (i : ℕ) → i < p.counts.n → int_at s i ≡ start_slope p i
    slope_at i h = rw slopes (row_at (pos 0) 32 p.counts.n (start_slope p) i (count-limits p rules.counts).n h)

    pub start_dues_ready : StartsReady p.counts.n p.integrators s
    start_dues_ready i h = record { level = level-ready-start p i rules h; due = rw (slope_at i h) (due-ready-start p i rules h) }

    pub start_dues : {d : List ℕ} → d ≡ row 0 32 p.counts.n (first_due p.integrators s) → d ≡ row 0 32 p.counts.n (start_due p)
    start_dues e = e ∙ row_ext 0 32 p.counts.n _ _ (λ i h. rw (slope_at i h) (due_is_start p i))

-- ---- the whole
-- as it is made, with the slopes s and the due ticks d
abbrev pub start_with : (p : Plan) (s : List ℤ) (d : List ℕ) (next : ℕ) → Running
start_with p s d next =
    let starts = p.integrators.starts in
    running_by (record { q = starts; inputs = p.inputs.firsts; next = next; instants = 0 }) starts s (replicate 32 0) d 0 0

pub start_is : (p : Plan) {s : List ℤ} {d : List ℕ} {next : ℕ} → s ≡ row (pos 0) 32 p.counts.n (start_slope p) → d ≡ row 0 32 p.counts.n (start_due p)
    → next ≡ next_command p 0 → start_with p s d next ≡ start_of p
unfolding start_of
start_is p e f g = rw (e, f, g, zeros 32 p.counts.n)
