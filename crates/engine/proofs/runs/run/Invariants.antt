-- The loop keeps `Progress`: what is left of the run ends where the whole run ends.
use Rattle.instant.specs.Instants.{running_of}
use Rattle.engine.proofs.Laws.RunLoop as law
use Rattle.engine.proofs.runs.run.Given as goal

-- `initial` are the figures with which the loop begins
abbrev pub invariant-loop : goal.invariant-loop
invariant-loop l =
    let i = l.initial in let counts = l.plan.counts in
    law.Progress l.plan l.engine l.budget (running_of counts i.motion i.values i.clocks) i.buffer
    (running_of counts l.motion l.values l.clocks) l.values l.ahead l.end l.counter l.buffer
