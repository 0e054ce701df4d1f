-- Proof: the promises about the plain machine: its start, its instants, what is read from it, and how many instants it takes. Assumes
-- nothing.
use Rattle.std.specs.Prelude.{refl}
use Rattle.machine.specs.Plain.{settled, plain_start, plain_next_tick, plain_position, plain_instant, plain_events_of}
use Rattle.machine.specs.Plain.{plain_status, plain_from, plain_events_from, plain_after, plain_events}
use Rattle.machine.proofs.Laws.PlainSteps.{began_x, began_s, began_d, plain_due, plain_not_woken, plain_set, plain_not_set, plain_x, plain_s, plain_d}
use Rattle.machine.proofs.Laws.PlainRuns.{takes_most, takes_all, takes_fewer, paused_before, after_next, events-next, after_same}
use Rattle.calls.specs.Promises.Machine.{PlainStarts, PlainMeans, PlainTakes}
use Rattle.calls.proofs.Proofs.Machine.{command_means, next_promise, status_promise}
use Rattle.calls.proofs.Proofs.Events.{events_promise}

pub plain_starts : PlainStarts
unfolding plain_start settled
plain_starts p rules =
    record {
      x = began_x p rules;
      q = λ i h. refl;
      s = began_s p rules;
      d = began_d p rules;
      inputs = λ j h. refl;
      clock = refl;
      next = command_means p 0;
      instants = refl;
    }

pub plain_means : PlainMeans
unfolding plain_next_tick plain_status plain_events_of plain_position plain_instant settled
plain_means p m =
    let t = plain_next_tick p m in
    record {
      tick = next_promise p m.d m.held;
      status = status_promise p m.d t (plain_position p m);
      step = λ rules. record {
        position = λ i. refl;
        sources =
            record {
              due = plain_due p rules m;
              not_due = plain_not_woken p rules m;
              set = plain_set p rules m;
              not_set = plain_not_set p rules m;
            };
        x = plain_x p rules m;
        s = plain_s p rules m;
        d = plain_d p rules m;
        clock = refl;
        next = command_means p t;
        instants = refl;
      };
      events = λ rules paused. events_promise p rules m.d t (plain_position p m) m.held paused;
    }

pub plain_takes : PlainTakes
unfolding plain_after plain_events plain_from plain_events_from
plain_takes p b =
    record {
      none = (refl, refl);
      taken = λ e. (after_next p b e, events-next p b e);
      stopped = after_same p b;
      most = takes_most p b;
      all = takes_all p b;
      fewer = takes_fewer p b;
      paused = λ i. paused_before p i b;
    }
