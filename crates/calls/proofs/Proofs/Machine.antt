-- Proof: the promises about the machine's rules: next instant, status, reach and due ticks. Assumes nothing.
use Rattle.std.specs.Prelude.{◌≡◌, Bool, List, ℕ, ◌-◌, ℤ}
use Rattle.std.proofs.Common.{arith}
use Rattle.plan.proofs.Laws.CountLimits.{count-limits}
use Rattle.plan.specs.declared.Plan.{Plan}
use Rattle.machine.specs.Due.{upper_level, lower_level, ticks_to, due_of}
use Rattle.machine.specs.Held.{Held, held_of, next_tick}
use Rattle.machine.specs.Reach.{is_due, gives}
use Rattle.machine.specs.Instant.{position_at, figures_after, next_tick_of, instant}
use Rattle.machine.specs.Status.{status_number, status_integrator, status_at, status_of}
use Rattle.machine.proofs.Laws.Due.{due-still, due-moving, ticks-least, ticks-rounded, stays_above, stays_below, countdown}
use Rattle.machine.proofs.Laws.Unreached.{rate_unreached}
use Rattle.machine.proofs.Laws.Next.{tick-due, tick-command, tick-never, tick-one, command-earlier, command-first, command-most}
use Rattle.machine.proofs.Laws.Status.{status-finished, status-range, status-paused, no_integrator}
use Rattle.machine.proofs.Laws.Reach.{changes_means, instant_reaches, instant_not_reached}
use Rattle.machine.proofs.Laws.Woken.{gives_means}
use Rattle.machine.specs.declared.Status.{Status}
use Rattle.calls.specs.Promises.Machine.{CommandMeans, NextPromise, NextMeans, StatusPromise, StatusMeans, ReachMeans, UnreachedKeepsRate}
use Rattle.calls.specs.Promises.Machine.{DueLeast, DueBetween}

pub command_means : CommandMeans
command_means p c = record { earlier = command-earlier p c; first = command-first p c; most = command-most p c }

-- the next instant's tick and the status, by whatever figures
pub next_promise : (p : Plan) (d : List ℕ) (h : Held) → NextPromise p d h.next (next_tick p d h)
next_promise p d h =
    record { due = tick-due p d h; command = tick-command p d h; one = tick-one p d h; no_instant = tick-never p d h }

module _ (p : Plan) (d : List ℕ) (t : ℕ) (position : ℕ → ℤ) where
  abbrev giving : ℕ → Bool
  giving = gives (is_due d t)

  abbrev status : Status
  status = status_at p t giving position

  pub status_promise : StatusPromise p d t position (status_number status) (status_integrator status)
  unfolding status_number status_integrator
  status_promise =
      record {
        finished = λ h. rw (status-finished p t giving position h);
        range = λ h l i k e b f.
            let is = status-range p t giving position h l i k ((gives_means d t i).1 e) b (λ j m g. f j m ((gives_means d t j).0 g)) in (rw is, rw is);
        paused = λ h l f. rw (status-paused p t giving position h l (λ i k g. f i k ((gives_means d t i).0 g)));
        no_integrator = no_integrator status;
      }

pub next_means : NextMeans
unfolding next_tick_of
next_means p r = next_promise p r.d (held_of r)

pub status_means : StatusMeans
unfolding status_of
status_means p r = status_promise p r.d (next_tick_of p r) (position_at r (next_tick_of p r))

pub reach_means : ReachMeans
reach_means p d t i rules =
    record { change = changes_means p d t i; reach = instant_reaches p d t i rules }

pub unreached_keeps_rate : UnreachedKeepsRate
unfolding instant figures_after
unreached_keeps_rate p engine r i rules h =
    let t = next_tick_of p r in
    rate_unreached p (count-limits p rules.counts) t (is_due r.d t) (position_at r t) (held_of r) i (instant_not_reached p r.d t i h)

pub due-least : DueLeast
unfolding due_of upper_level lower_level
due-least p q i l x s =
    let u = upper_level p q i in let b = lower_level p q i in record {
      still = due-still l x u b s;
      moving = λ m. let e : due_of p q i l x s - l ≡ ticks_to x u b s = omega (arith, due-moving l x u b s m) in rw e (ticks-least x u b s m);
    }

pub due_between : DueBetween
due_between x upper lower s moves above below =
    record {
      rounded = ticks-rounded x upper lower s above below moves;
      countdown = countdown x upper lower s above below moves;
      above = stays_above x upper lower s above below moves;
      below = stays_below x upper lower s above below moves;
    }
