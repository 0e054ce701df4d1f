-- Proof: every promise holds. Assumes nothing.
use Rattle.calls.specs.Promises.{EveryPromise}
use Rattle.calls.proofs.Proofs.Numbers.{numbers_mean}
use Rattle.calls.proofs.Proofs.Machine.{command_means, next_means, status_means, reach_means, unreached_keeps_rate, due-least, due_between}
use Rattle.calls.proofs.Proofs.Steps.{values_mean, start_means, steps_mean, run_takes}
use Rattle.calls.proofs.Proofs.Calls.{every-number, accepted, every-buffer, declined}
use Rattle.calls.proofs.Proofs.Files.{every_file, every-view, load_widths}
use Rattle.calls.proofs.Proofs.Places.{every-header, every-place}
use Rattle.calls.proofs.Proofs.Limits.{limits}
use Rattle.calls.proofs.Proofs.Sound.{sound_means, load_sound, idle-loaded, next_determined}
use Rattle.calls.proofs.Proofs.RoundTrips.{load_then_write, write_then_load}
use Rattle.calls.proofs.Proofs.Events.{events-read}
use Rattle.calls.proofs.Proofs.PlainMachine.{plain_starts, plain_means, plain_takes}
use Rattle.calls.proofs.Proofs.Runs.{run_sound, run-moves, run-widths}
use Rattle.calls.proofs.Proofs.Folds.{lists_mean, growth_means}
use Rattle.calls.proofs.Proofs.Demand3.{demand_3}
use Rattle.calls.proofs.Proofs.Sessions.{every-session, sessions_exist}

pub every_promise : EveryPromise
every_promise =
    record {
      numbers_mean = numbers_mean;
      every_file = every_file;
      every-header = every-header;
      every-place = every-place;
      every-view = every-view;
      load_then_write = load_then_write;
      write_then_load = write_then_load;
      load_widths = load_widths;
      values_mean = values_mean;
      due-least = due-least;
      due_between = due_between;
      command_means = command_means;
      start_means = start_means;
      next_means = next_means;
      steps_mean = steps_mean;
      reach_means = reach_means;
      unreached_keeps_rate = unreached_keeps_rate;
      events-read = events-read;
      status_means = status_means;
      run_takes = run_takes;
      plain_starts = plain_starts;
      plain_means = plain_means;
      plain_takes = plain_takes;
      lists_mean = lists_mean;
      growth_means = growth_means;
      demand_3 = demand_3;
      every-session = every-session;
      sessions_exist = sessions_exist;
      sound_means = sound_means;
      load_sound = load_sound;
      run_sound = run_sound;
      idle-loaded = idle-loaded;
      next_determined = next_determined;
      run-moves = run-moves;
      run-widths = run-widths;
      every-number = every-number;
      accepted = accepted;
      declined = declined;
      every-buffer = every-buffer;
      limits = limits;
    }
