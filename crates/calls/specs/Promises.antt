-- Promise: all of them in one record, as statements. Each is a type: a proof of it is a term of exactly that type, and stands in Proofs.
-- Nothing is assumed here, and nothing proved. Refusals, statuses and sizes are written out as document 01 writes them.
pub mod Numbers
pub mod Files
pub mod Machine
pub mod Lists
pub mod Sessions
pub mod States
pub mod Calls
pub mod Limits
use Rattle.calls.specs.Promises.Numbers.{NumbersMean}
use Rattle.calls.specs.Promises.Files.{EveryFile, EveryHeader, EveryPlace, EveryView, LoadThenWrite, WriteThenLoad, LoadWidths}
use Rattle.calls.specs.Promises.Machine.{ValuesMean, DueLeast, DueBetween, CommandMeans, StartMeans, NextMeans, StepsMean, ReachMeans}
use Rattle.calls.specs.Promises.Machine.{UnreachedKeepsRate, EventsRead, StatusMeans, RunTakes, PlainStarts, PlainMeans, PlainTakes}
use Rattle.calls.specs.Promises.Lists.{ListsMean, GrowthMeans, Demand3}
use Rattle.calls.specs.Promises.Sessions.{EverySession, SessionsExist}
use Rattle.calls.specs.Promises.States.{SoundMeans, LoadSound, RunSound, IdleLoaded, NextDetermined, RunMoves, RunWidths}
use Rattle.calls.specs.Promises.Calls.{EveryNumber, Accepted, Declined, EveryBuffer}
use Rattle.calls.specs.Promises.Limits.{LimitPromise}

-- all of them
pub record EveryPromise : Type 0 where
  pub numbers_mean : NumbersMean
  pub every_file : EveryFile
  pub every-header : EveryHeader
  pub every-place : EveryPlace
  pub every-view : EveryView
  pub load_then_write : LoadThenWrite
  pub write_then_load : WriteThenLoad
  pub load_widths : LoadWidths
  pub values_mean : ValuesMean
  pub due-least : DueLeast
  pub due_between : DueBetween
  pub command_means : CommandMeans
  pub start_means : StartMeans
  pub next_means : NextMeans
  pub steps_mean : StepsMean
  pub reach_means : ReachMeans
  pub unreached_keeps_rate : UnreachedKeepsRate
  pub events-read : EventsRead
  pub status_means : StatusMeans
  pub run_takes : RunTakes
  pub plain_starts : PlainStarts
  pub plain_means : PlainMeans
  pub plain_takes : PlainTakes
  pub lists_mean : ListsMean
  pub growth_means : GrowthMeans
  pub demand_3 : Demand3
  pub every-session : EverySession
  pub sessions_exist : SessionsExist
  pub sound_means : SoundMeans
  pub load_sound : LoadSound
  pub run_sound : RunSound
  pub idle-loaded : IdleLoaded
  pub next_determined : NextDetermined
  pub run-moves : RunMoves
  pub run-widths : RunWidths
  pub every-number : EveryNumber
  pub accepted : Accepted
  pub declined : Declined
  pub every-buffer : EveryBuffer
  pub limits : LimitPromise
