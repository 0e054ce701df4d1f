-- Laws: a section check, whose loop goes through the section from entry 0 and ends at the first fault. Assumes nothing.
use Rattle.std.specs.Prelude.{◌≡◌, refl, Bool, true, false, Ok, Err}
use Rattle.std.proofs.Common.{ap}
use Prim.Native.Nat.{ℕ, suc, ◌+◌, ◌-◌, ◌≤◌, ◌<◌}
use native.Mathlib.Omega.{arith}
use Rattle.plan.specs.Tests.{horizon_kept, integrator_kept, input_kept, node_kept, link_limits_kept, link_ordered, command_limits_kept, command_ordered}
use Rattle.plan.specs.Refusals.{unless, or_else, first_finding, plan_finding, horizon_finding, integrators_finding, inputs_finding}
use Rattle.plan.specs.Refusals.{nodes_finding, links_finding, commands_finding}
use Rattle.plan.specs.declared.Plan.{Plan}
use Rattle.plan.proofs.Laws.CountLimits.{count-limits}
use Rattle.plan.specs.declared.Refusal.{Refusal}
use Rattle.plan.specs.declared.Refusal.TheVariants.{Horizon}
use Rattle.planrules.specs.Checks.{checked, integrators_check, inputs_check, nodes_check, links_check, commands_check}

-- The loop has come to entry i of n, and every entry before it passed its test: what is left has the finding of the whole.
pub record CleanTo (test : ℕ → Bool) (fault : ℕ → Refusal) (n i : ℕ) : Type 0 where
  pub inside : i ≤ n
  pub left : checked test fault n ≡ first_finding (λ e. unless (test e) (fault e)) i (n - i)

module _ {test : ℕ → Bool} {fault : ℕ → Refusal} {n : ℕ} where
  pub begin : CleanTo test fault n 0
  begin =
      let e : n ≡ n - 0 = omega arith in
      record { inside = omega arith; left = ap (first_finding (λ e. unless (test e) (fault e)) 0) e }

  module _ {i : ℕ} (r : CleanTo test fault n i) where
    -- past the last entry
    pub none : n ≤ i → Ok tt ≡ checked test fault n
    unfolding first_finding
    none h = let e : n - i ≡ 0 = omega arith in rw (r.left, e)

    module _ (h : i < n) where
      step : checked test fault n ≡ or_else (unless (test i) (fault i)) (first_finding (λ e. unless (test e) (fault e)) (i + 1) (n - (i + 1)))
      unfolding first_finding
      step = let e : n - i ≡ suc (n - (i + 1)) = omega arith in rw (r.left, e)

      pub passed : test i ≡ true → CleanTo test fault n (i + 1)
      unfolding or_else
      passed e = record { inside = omega arith; left = rw (step, e) }

      pub found : test i ≡ false → Err (fault i) ≡ checked test fault n
      unfolding or_else
      found e = rw (step, e)

-- the plan's finding is that of the checks, in order
pub plan_stages : (p : Plan) → let c = p.counts in let base = c.n + c.m in
    plan_finding p ≡ or_else (unless (horizon_kept p.horizon) Horizon)
    (or_else (integrators_check c.n p.integrators.starts p.integrators.quanta)
    (or_else (inputs_check c.m p.inputs.firsts)
    (or_else (nodes_check base c.k p.nodes.kinds p.nodes.a p.nodes.b p.nodes.lows p.nodes.highs)
    (or_else (links_check c.n (base + c.k) c.links p.links.targets p.links.sources p.links.coefficients)
    (commands_check p.horizon c.m c.commands p.commands.ticks p.commands.inputs p.commands.values)))))
unfolding plan_finding horizon_finding integrators_finding integrator_kept inputs_finding input_kept nodes_finding node_kept links_finding
    link_limits_kept link_ordered commands_finding command_limits_kept command_ordered
plan_stages p = refl

pub ruleset stages = (plan_stages, count-limits)
