-- Obeying from entry e on ends where obeying from the next entry on ends.
use mathlib.Core.Path.{◌≡◌}
use Prim.Native.Nat.{◌-◌}
use Rattle.steps.specs.Entries.{after_entries, after_entries_from}
use Rattle.steps.proofs.entries.obey_entries.Given as goal

abbrev pub invariant-loop-e : goal.invariant-loop-e
invariant-loop-e l =
    let k = l.commands in let obeyed = after_entries_from l.first k.ticks k.inputs k.values l.t in
    obeyed l.e (l.count - l.e) (after_entries l.values l.numbers l.e)
    ≡ obeyed l.next (l.count - l.next) (after_entries l.initial.values 0 l.next)
