-- Each reader is handed a section and its count, so what they hand back makes up the plan, whose counts are inside their limits.
use mathlib.Core.Path.{sym, subst}
use native.Mathlib.Omega.{arith}
use Rattle.plan.specs.Rules.{CountsRule}
use Rattle.plan.proofs.Laws.FileRefusals.{counts_in}
use Rattle.planfile.proofs.Laws.Sections.{section_room, n_in, m_in, k_in, links_in, commands_in, plan-read}
use Rattle.planfile.proofs.decoding.decode.Goals as goal

pub horizon_in-requires : goal.horizon_in-requires
horizon_in-requires c = c.requires.long

pub read_integrators-requires : goal.read_integrators-requires
read_integrators-requires c = section_room _ 0 (n_in _ c.counts_in-counts.ensures) c.section_in.ensures.answer c.requires (omega arith)

pub read_inputs-requires : goal.read_inputs-requires
read_inputs-requires c = section_room _ 1 (m_in _ c.counts_in-counts.ensures) c.section_in-2.ensures.answer c.requires (omega arith)

pub read_nodes-requires : goal.read_nodes-requires
read_nodes-requires c = section_room _ 2 (k_in _ c.counts_in-counts.ensures) c.section_in-3.ensures.answer c.requires (omega arith)

pub read_links-requires : goal.read_links-requires
read_links-requires c = section_room _ 3 (links_in _ c.counts_in-counts.ensures) c.section_in-4.ensures.answer c.requires (omega arith)

pub read_commands-requires : goal.read_commands-requires
read_commands-requires c = section_room _ 4 (commands_in _ c.counts_in-counts.ensures) c.section_in-5.ensures.answer c.requires (omega arith)

pub returns : goal.returns
returns c =
    let integrators = c.read_integrators.ensures in
    let nodes = c.read_nodes.ensures in
    let links = c.read_links.ensures in
    let commands = c.read_commands.ensures in
    let answer =
    plan-read _ c.counts_in-counts.ensures c.horizon_in.ensures
    c.section_in.ensures.answer (integrators.starts, integrators.quanta)
    c.section_in-2.ensures.answer c.read_inputs.ensures
    c.section_in-3.ensures.answer (nodes.kinds, (nodes.a, (nodes.b, (nodes.lows, nodes.highs))))
    c.section_in-4.ensures.answer (links.targets, (links.sources, links.coefficients))
    c.section_in-5.ensures.answer (commands.ticks, (commands.inputs, commands.values)) in
    record { answer = answer; counts = subst CountsRule (sym answer) (counts_in _ c.requires.sizes) }
