-- Proof: what the accepted budgets of a list add up to, the call that an instant belongs to, and how updates grow. Assumes nothing.
use Rattle.std.specs.Prelude.{◌≡◌, refl, ℕ, suc, ◌+◌, ◌-◌}
use Rattle.std.proofs.Common.{subst, zero-add, eq-eqb, ne_eqb, le-leb}
use native.Mathlib.Omega.{arith}
use Rattle.std.proofs.lemmas.Bool.{lt-leb}
use Rattle.bitset.specs.Counts.{count_of}
use Rattle.plan.specs.declared.Plan.{Plan}
use Rattle.machine.specs.Instant.{moves}
use Rattle.machine.specs.Plain.{plain_next_tick, plain_after, lazy_count}
use Rattle.machine.specs.Updates.{growth, is_eager, eager_instants, lazy_growth}
use Rattle.machine.proofs.Laws.Instants.{growth-parts}
use Rattle.machine.specs.declared.Engine.{Engine}
use Rattle.machine.specs.declared.Engine.TheVariants.{Lazy, Eager}
use Rattle.calls.specs.Lists.{accepted_budget, budget_sum, engine_at}
use Rattle.calls.specs.Promises.Lists.{ListsMean, GrowthMeans}

pub lists_mean : ListsMean
unfolding accepted_budget budget_sum engine_at
lists_mean st c calls =
    record {
      accepted_sum_lem = λ e. rw (eq-eqb _ 0 e);
      declined-sum = λ e. rw (ne_eqb _ 0 e) (zero-add _);
      own = λ i e l h. rw (eq-eqb _ 0 e, le-leb i c.budget h);
      later = λ i e h. rw (eq-eqb _ 0 e, lt-leb i c.budget h);
      declined = λ i e l. let all : i - 0 ≡ i = omega arith in rw (ne_eqb _ 0 e, lt-leb i 0 l, all);
    }

-- what one more instant adds to the two parts of the count
module _ (p : Plan) (engine : ℕ → Engine) (k : ℕ) where
  one_eager : engine (k + 1) ≡ Eager
      → (eager_instants engine (suc k) ≡ eager_instants engine k + 1) × (lazy_growth p engine (suc k) ≡ lazy_growth p engine k)
  unfolding eager_instants lazy_growth is_eager count_of
  one_eager e = rw e (omega arith, omega arith)

  one-lazy : engine (k + 1) ≡ Lazy
      → (eager_instants engine (suc k) ≡ eager_instants engine k) × (lazy_growth p engine (suc k) ≡ lazy_growth p engine k + lazy_count p (plain_after p k))
  unfolding eager_instants lazy_growth is_eager count_of
  one-lazy e = rw e (refl, refl)

pub growth_means : GrowthMeans
unfolding growth lazy_count moves plain_next_tick eager_instants lazy_growth count_of
growth_means p engine k m =
    let next : suc k ≡ k + 1 = omega arith in
    record {
      lazy = refl;
      due_or_reached = refl;
      parts = growth-parts p engine k;
      none = (refl, refl);
      by_eager =
          λ e. subst (λ i. (eager_instants engine i ≡ eager_instants engine k + 1) × (lazy_growth p engine i ≡ lazy_growth p engine k)) next (one_eager p engine k e);
      by_lazy =
          λ e. subst (λ i. (eager_instants engine i ≡ eager_instants engine k) × (lazy_growth p engine i ≡ lazy_growth p engine k + lazy_count p (plain_after p k)))
          next (one-lazy p engine k e);
    }
