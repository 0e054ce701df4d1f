-- What is asked before the loop follows from the plan's limits; a turn keeps `Progress`, and the loop ends by the budget or by the status.
use mathlib.Core.Path.{◌≡◌, sym, ◌∙◌}
use mathlib.Core.Bool.{true}
use Prim.Native.Nat.{◌<◌}
use borrow.Author.Rules.{rules}
use Rattle.plan.proofs.Laws.CountLimits.{CountLimits, count-limits}
use Rattle.plan.specs.declared.Plan.{Plan}
use Rattle.machine.specs.Status.{is_paused}
use Rattle.machine.specs.Sound.{SoundInWords, RunningWidths}
use Rattle.machine.proofs.Laws.SoundTest.{words_clauses}
use Rattle.machine.specs.declared.Running.{Running}
use Rattle.reach.proofs.Laws.Reached.{table_ready}
use Rattle.instant.proofs.Laws.Unread.{own_ready, own_taken}
use Rattle.engine.proofs.Laws.Aheads.{ahead-ready}
use Rattle.engine.proofs.Laws.RunLoop as law
use Rattle.engine.proofs.runs.run.Goals.{Start, Else-not-is_paused, else-loop-test, then-loop-test+then-not-is_paused}
use Rattle.engine.proofs.runs.run.Goals as goal

limits : {p : Plan} {r : Running} → SoundInWords p r → CountLimits p
limits {p} {r} sound = count-limits p (words_clauses p r sound).plan.counts

shaped : (c : Start) → RunningWidths c.args.first
shaped c = record { x = search rules; q = search rules; s = search rules; l = search rules; d = search rules; inputs = search rules }

-- ---- before the loop

pub reach_table-reach-requires : goal.reach_table-reach-requires
reach_table-reach-requires c = table_ready _ (words_clauses _ _ c.requires.sound).plan

pub look_ahead-ahead-requires : goal.look_ahead-ahead-requires
look_ahead-ahead-requires c = ahead-ready _ _ (words_clauses _ c.args.first c.requires.sound)

pub loop-init : goal.loop-init
loop-init c =
    law.begun _ _ _ _ _ (shaped (goal.at.loop-init c).Start) (words_clauses _ _ c.requires.sound) c.requires.values_are
    c.look_ahead-ahead.ensures c.requires.room

-- ---- a turn

-- that the tests have passed
module _ (c : Else-not-is_paused) where
  more : c.loop.counter < c.args.budget
  more = c.loop-test.true

  paused : is_paused c.loop.ahead.status ≡ true
  paused = sym c.is_paused.ensures ∙ c.if-not-is_paused.false

pub take_instant-step-requires : goal.take_instant-step-requires
take_instant-step-requires c =
    let t = (goal.at.take_instant-step-requires c).Else-not-is_paused in
    own_ready c.args.plan.now (law.instant-ready c.loop.invariant (more t) (paused t) c.requires.ranges_are c.reach_table-reach.ensures)

pub look_ahead-ahead-requires-in-loop : goal.look_ahead-ahead-requires-in-loop
look_ahead-ahead-requires-in-loop c =
    let t = (goal.at.look_ahead-ahead-requires-in-loop c).Else-not-is_paused in
    let l = c.loop.invariant in
    let ready = law.instant-ready l (more t) (paused t) c.requires.ranges_are c.reach_table-reach.ensures in
    ahead-ready _ _ (law.sound_then l (more t) (paused t) (own_taken c.args.plan.now c.take_instant-step.ensures ready).figures)

pub loop-preserved : goal.loop-preserved
loop-preserved c =
    let t = (goal.at.loop-preserved c).Else-not-is_paused in
    let l = c.loop.invariant in
    let ready = law.instant-ready l (more t) (paused t) c.requires.ranges_are c.reach_table-reach.ensures in
    let done = own_taken c.args.plan.now c.take_instant-step.ensures ready in
    law.advanced l (more t) (paused t) done.figures done.sources c.look_ahead-ahead-in-loop.ensures done.bytes done.place

-- ---- the end, by the budget or by the status

pub outputs_in-q-requires : goal.outputs_in-q-requires
outputs_in-q-requires c = (limits c.requires.sound).n

pub inputs_in-inputs-requires : goal.inputs_in-inputs-requires
inputs_in-inputs-requires c = let limits = limits c.requires.sound in (limits.n, limits.m)

pub returns : goal.returns
returns c =
    let l = c.loop in
    let begins = law.running_read _ _ (shaped (goal.at.returns c).Start) (words_clauses _ _ c.requires.sound) c.requires.values_are in
    let told = law.figures-read c.args.plan.now.counts l.motion l.values l.clocks c.outputs_in-q.ensures c.inputs_in-inputs.ensures in
    elim c.loop-test.branch [
      | else-loop-test w ↦ let e = law.spent l.invariant begins told w.loop-test.false in record { answer = e.0; buffer = e.1 }
      | then-loop-test+then-not-is_paused w ↦
          let e = law.stopped l.invariant begins told (sym w.is_paused.ensures ∙ w.if-not-is_paused.true) in
          record { answer = e.0; buffer = e.1 }
    ]
