-- The lowest that bars the instant is among those left, till it is the lowest left.
use mathlib.Core.Path.{◌≡◌}
use Prim.Native.Nat.{◌^◌, ◌<◌}
use Rattle.plan.specs.Lists.{first_from}
use Rattle.timing.specs.Status.{bars_in, DuePositionsReady}
use Rattle.timing.proofs.status.lowest_barring.Given as goal

abbrev pub invariant-loop-i : goal.invariant-loop-i
invariant-loop-i l =
    let left = l.i-iterator.left in let m = l.motion in
    (left < 2 ^ l.n) × DuePositionsReady l.t left m.x m.s m.l × (first_from (bars_in l.t left m.x m.s m.l) 0 l.n ≡ first_from (bars_in l.t l.fn.due m.x m.s m.l) 0 l.n)
