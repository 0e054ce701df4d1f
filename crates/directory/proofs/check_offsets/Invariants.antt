-- Before the turn of a section every offset below it is right, and `start` is where the section is to start. Two words add up to less than 2^33.
use mathlib.Core.Path.{◌≡◌}
use mathlib.Core.Bool.{true}
use lib.Dec.{eqb}
use Rattle.plan.specs.Lists.{every}
use Rattle.plan.specs.Format.{offset_in, required_offset}
use Rattle.directory.proofs.check_offsets.Given as goal

abbrev pub invariant-loop-section : goal.invariant-loop-section
invariant-loop-section l = (every (λ k. eqb (offset_in l.file k) (required_offset l.file k)) l.section ≡ true) × (l.start ≡ required_offset l.file l.section)
