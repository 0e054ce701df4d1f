-- Proof: the promises about values, Start, the steps of one instant, and runs. Assumes nothing.
use Rattle.std.specs.Prelude.{refl}
use Rattle.std.proofs.Common.{sym, ◌∙◌}
use Rattle.plan.proofs.Laws.CountLimits.{count-limits}
use Rattle.machine.specs.Held.{held_start}
use Rattle.machine.specs.Start.{start_of, start_state}
use Rattle.machine.specs.Instant.{position_at, figures_after, next_tick_of, instant}
use Rattle.machine.specs.Runs.{after_run, events_of_run}
use Rattle.machine.proofs.Laws.Held.{slope_is}
use Rattle.machine.proofs.Laws.Runs.{run-stopped, run-taken}
use Rattle.machine.proofs.Laws.StartSound.{start_slope_lem, start-last, start_due_lem}
use Rattle.machine.proofs.Laws.Steps.{moves_means, woken-moves, step-due, step_not_woken, step_set, step-not_set, step-x, step-l, step-s, step-d}
use Rattle.machine.proofs.Laws.Steps.{step_not_moved}
use Rattle.machine.proofs.Laws.Values.{integrator-value, input-source, difference_node, product_node, limit_node, high-node, low-node}
use Rattle.machine.proofs.Laws.Values.{sum-none, sum-own, sum_other, rate_floor}
use Rattle.calls.specs.Promises.Machine.{ValuesMean, RunTakes, StartMeans, StepsMean}
use Rattle.calls.proofs.Proofs.Machine.{command_means}

pub values_mean : ValuesMean
values_mean p q u rules =
    record {
      integrators = integrator-value p q u;
      inputs = input-source p q u;
      differences = difference_node p q u rules;
      products = product_node p q u rules;
      limited-values = limit_node p q u rules;
      high = high-node p q u rules;
      low = low-node p q u rules;
      no_link = sum-none p q u;
      own-link = sum-own p q u;
      other_link = sum_other p q u;
      rate-below = λ i. (rate_floor p q u i).0;
      rate-above = λ i. (rate_floor p q u i).1;
    }

pub run_takes : RunTakes
unfolding after_run events_of_run
run_takes p engine r =
    record { none = (refl, refl); stopped = λ b. run-stopped p engine b r; taken = λ b. run-taken p engine b r }

pub start_means : StartMeans
unfolding start_state start_of
start_means p rules =
    let limits = count-limits p rules.counts in (
      refl,
      record {
        x = λ i h. refl;
        q = λ i h. refl;
        l = start-last p limits;
        s = λ i h. start_slope_lem p limits i h ∙ slope_is p (held_start p) i;
        d = start_due_lem p limits;
        inputs = λ j h. refl;
        clock = refl;
        next = command_means p 0;
        instants = refl;
        updates = refl;
      },
    )

pub steps_mean : StepsMean
unfolding instant figures_after position_at
steps_mean p engine r rules =
    let t = next_tick_of p r in
    record {
      position = λ i. refl;
      sources =
          record {
            due = step-due p rules engine r;
            not_due = step_not_woken p rules engine r;
            set = step_set p rules engine r;
            not_set = step-not_set p rules engine r;
          };
      x = step-x p rules engine r;
      l = step-l p rules engine r;
      s = step-s p rules engine r;
      d = step-d p rules engine r;
      due-x = λ i h e. step-x p rules engine r i h (woken-moves p engine r.d t i e) ∙ sym (step-due p rules engine r i h e);
      not_moved = step_not_moved p rules engine r;
      clock = refl;
      next = command_means p t;
      instants = refl;
      updates = refl;
      moving = λ i. moves_means p rules engine r.d t i;
    }
