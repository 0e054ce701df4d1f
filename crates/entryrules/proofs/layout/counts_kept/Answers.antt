-- The sections one after the other.
use Rattle.std.proofs.Common.{rules}
use Rattle.std.proofs.iter.runs.Sources.{ranges}
use Rattle.plan.specs.Lists.{every}
use Rattle.entryrules.proofs.layout.counts_kept.Goals as goal

pub returns : goal.returns
unfolding every
returns c = search (rules, ranges)
