-- Tick and mask are the definition's, so the status is asked of them.
use Rattle.bitset.proofs.Laws.Bits.{mask_of_lt}
use Rattle.engine.proofs.ahead.look_ahead.Goals as goal

pub status_at-status-requires : goal.status_at-status-requires
status_at-status-requires c =
    rw c.soonest_of-soonest.ensures (c.requires.few, mask_of_lt _ c.args.plan.now.counts.n, λ _. c.requires.positions)
