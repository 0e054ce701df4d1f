-- Node k - 1 first, then the nodes below it.
use Rattle.reach.proofs.+follow_down.Given as goal

abbrev pub decreases-follow_down : goal.decreases-follow_down
decreases-follow_down l = l.k
