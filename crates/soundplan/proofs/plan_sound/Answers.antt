-- Behind the test of the counts they are inside their limits.
use mathlib.Core.Path.{sym, ◌∙◌}
use native.Mathlib.Omega.{arith}
use Rattle.plan.proofs.Laws.CountLimits.{CountLimits}
use Rattle.soundplan.proofs.Laws.SectionTests.{limits}
use Rattle.soundplan.proofs.plan_sound.Goals.{Else-not-counts_kept}
use Rattle.soundplan.proofs.plan_sound.Goals as goal

counted : (c : Else-not-counts_kept) → CountLimits c.args.plan.now
counted c = limits c.args.plan.now (rw (c.in_order.ensures) at (sym c.counts_kept.ensures ∙ c.if-not-counts_kept.false))

pub overflow_add-base : goal.overflow_add-base
overflow_add-base c = let l = counted (goal.at.overflow_add-base c).Else-not-counts_kept in omega (arith, l.n, l.m)

pub overflow_add-all : goal.overflow_add-all
overflow_add-all c = let l = counted (goal.at.overflow_add-all c).Else-not-counts_kept in omega (arith, l.n, l.m, l.k)

pub integrators_kept-requires : goal.integrators_kept-requires
integrators_kept-requires c = (counted (goal.at.integrators_kept-requires c).Else-not-counts_kept).n

pub inputs_kept-requires : goal.inputs_kept-requires
inputs_kept-requires c = (counted (goal.at.inputs_kept-requires c).Else-not-counts_kept).m

pub nodes_kept-requires : goal.nodes_kept-requires
nodes_kept-requires c = let l = counted (goal.at.nodes_kept-requires c).Else-not-counts_kept in (omega (arith, l.n, l.m), l.k)

pub links_kept-requires : goal.links_kept-requires
links_kept-requires c = (counted (goal.at.links_kept-requires c).Else-not-counts_kept).links

pub commands_kept-requires : goal.commands_kept-requires
commands_kept-requires c = (counted (goal.at.commands_kept-requires c).Else-not-counts_kept).commands
