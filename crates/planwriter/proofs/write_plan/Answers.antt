-- The file grows section by section: behind each call the header and the sections so far are written (`stage_..`), and what the
-- next call needs follows from that.
use mathlib.Core.List.{List}
use Prim.Native.Nat.{ℕ}
use native.Mathlib.Omega.{arith}
use Rattle.plan.specs.Tests.{count_list}
use Rattle.plan.specs.Encoding.{integrator_words, input_words, node_words, link_words, command_words}
use Rattle.plan.proofs.Laws.CountLimits.{count-limits}
use Rattle.plan.proofs.Laws.Layout.{entry_words, section_words}
use Rattle.plan.specs.declared.Plan.{Plan}
use Rattle.planwriter.specs.Header.{CountsWithinLimits}
use Rattle.planwriter.proofs.Laws.Header.{counts-within-limits}
use Rattle.planwriter.proofs.Laws.SectionWriting.{fitting, WrittenUpTo, inside, section_room, next, header-room, headed, filed, short}
use Rattle.words.proofs.Laws.Putting.{back}
use Rattle.planwriter.proofs.write_plan.Goals.{Start, After-in_order-sizes, After-write_header, After-write_integrators, After-write_inputs, After-write_nodes, After-write_links, After-write_commands}
use Rattle.planwriter.proofs.write_plan.Goals as goal

-- ---- the plan
abbrev plan : Start → Plan
plan s = s.args.plan.now

-- ---- the buffer behind each call
abbrev buffer-header : After-write_header → List ℕ
buffer-header c = c.write_header.new.buffer

abbrev buffer-integrators : After-write_integrators → List ℕ
buffer-integrators c =
    back (buffer-header (goal.at.After-write_integrators c).After-write_header) c.section_offset-integrators.result c.write_integrators.new.buffer

abbrev buffer-inputs : After-write_inputs → List ℕ
buffer-inputs c =
    back (buffer-integrators (goal.at.After-write_inputs c).After-write_integrators) c.section_offset-inputs.result c.write_inputs.new.buffer

abbrev buffer-nodes : After-write_nodes → List ℕ
buffer-nodes c =
    back (buffer-inputs (goal.at.After-write_nodes c).After-write_inputs) c.section_offset-nodes.result c.write_nodes.new.buffer

abbrev buffer-links : After-write_links → List ℕ
buffer-links c =
    back (buffer-nodes (goal.at.After-write_links c).After-write_nodes) c.section_offset-links.result c.write_links.new.buffer

abbrev buffer-commands : After-write_commands → List ℕ
buffer-commands c =
    back (buffer-links (goal.at.After-write_commands c).After-write_links) c.section_offset-commands.result c.write_commands.new.buffer

-- ---- what is written in it
stage_header : (c : After-write_header) → WrittenUpTo (plan (goal.at.After-write_header c).Start) c.args.buffer.now 0 (buffer-header c)
unfolding count_list
stage_header c =
    let p = plan (goal.at.After-write_header c).Start in
    headed p c.args.buffer.now (rw (c.in_order-sizes.ensures) at c.section_offset-length.ensures) (omega (arith, c.if-buffer-length.false)) (rw (c.in_order-sizes.ensures) at c.write_header.ensures)

stage_integrators : (c : After-write_integrators) → WrittenUpTo (plan (goal.at.After-write_integrators c).Start) c.args.buffer.now 1 (buffer-integrators c)
unfolding count_list section_words entry_words integrator_words
stage_integrators c =
    next (stage_header (goal.at.After-write_integrators c).After-write_header) (omega arith) (rw (c.in_order-sizes.ensures) at c.section_offset-integrators.ensures) c.write_integrators.ensures

stage_inputs : (c : After-write_inputs) → WrittenUpTo (plan (goal.at.After-write_inputs c).Start) c.args.buffer.now 2 (buffer-inputs c)
unfolding count_list section_words entry_words input_words
stage_inputs c =
    next (stage_integrators (goal.at.After-write_inputs c).After-write_integrators) (omega arith) (rw (c.in_order-sizes.ensures) at c.section_offset-inputs.ensures) c.write_inputs.ensures

stage_nodes : (c : After-write_nodes) → WrittenUpTo (plan (goal.at.After-write_nodes c).Start) c.args.buffer.now 3 (buffer-nodes c)
unfolding count_list section_words entry_words node_words
stage_nodes c =
    next (stage_inputs (goal.at.After-write_nodes c).After-write_inputs) (omega arith) (rw (c.in_order-sizes.ensures) at c.section_offset-nodes.ensures) c.write_nodes.ensures

stage_links : (c : After-write_links) → WrittenUpTo (plan (goal.at.After-write_links c).Start) c.args.buffer.now 4 (buffer-links c)
unfolding count_list section_words entry_words link_words
stage_links c =
    next (stage_nodes (goal.at.After-write_links c).After-write_nodes) (omega arith) (rw (c.in_order-sizes.ensures) at c.section_offset-links.ensures) c.write_links.ensures

stage_commands : (c : After-write_commands) → WrittenUpTo (plan (goal.at.After-write_commands c).Start) c.args.buffer.now 5 (buffer-commands c)
unfolding count_list section_words entry_words command_words
stage_commands c =
    next (stage_links (goal.at.After-write_commands c).After-write_links) (omega arith) (rw (c.in_order-sizes.ensures) at c.section_offset-commands.ensures) c.write_commands.ensures

-- ---- the needs
limits : (c : After-in_order-sizes) → CountsWithinLimits c.in_order-sizes.result
unfolding count_list
limits c = rw (c.in_order-sizes.ensures) (counts-within-limits (plan (goal.at.After-in_order-sizes c).Start) c.requires.counts)

pub section_offset-length-requires : goal.section_offset-length-requires
unfolding count_list
section_offset-length-requires c = (omega arith, limits (goal.at.section_offset-length-requires c).After-in_order-sizes)

pub returns-then-buffer-length : goal.returns-then-buffer-length
unfolding count_list
returns-then-buffer-length c =
    let p = plan (goal.at.returns-then-buffer-length c).Start in
    let declined = short p c.args.buffer.now (rw (c.in_order-sizes.ensures) at c.section_offset-length.ensures) (omega (arith, c.if-buffer-length.true)) in
    record { answer = declined.0; buffer = declined.1 }

pub write_header-requires : goal.write_header-requires
unfolding count_list
write_header-requires c =
    let at = goal.at.write_header-requires c in
    let room = header-room (plan at.Start) c.args.buffer.now (rw (c.in_order-sizes.ensures) at c.section_offset-length.ensures) (omega (arith, c.if-buffer-length.false)) in
    (room, limits at.After-in_order-sizes)

pub section_offset-integrators-requires : goal.section_offset-integrators-requires
unfolding count_list
section_offset-integrators-requires c = (omega arith, limits (goal.at.section_offset-integrators-requires c).After-in_order-sizes)

pub slice_bounds-write_integrators-count : goal.slice_bounds-write_integrators-count
unfolding count_list
slice_bounds-write_integrators-count c =
    let before = (goal.at.slice_bounds-write_integrators-count c).After-write_header in
    inside (stage_header before) (omega arith) (rw (c.in_order-sizes.ensures) at c.section_offset-integrators.ensures)

pub slice_bounds-write_integrators-start : goal.slice_bounds-write_integrators-start
slice_bounds-write_integrators-start c = slice_bounds-write_integrators-count c

pub write_integrators-requires : goal.write_integrators-requires
unfolding count_list
write_integrators-requires c =
    let at = goal.at.write_integrators-requires c in
    let p = plan at.Start in
    let room = section_room (stage_header at.After-write_header) (omega arith) (rw (c.in_order-sizes.ensures) at c.section_offset-integrators.ensures) in
    let f = fitting p c.requires in
    record { counted = ((count-limits p c.requires.counts).n, room); fitting = (f.starts, f.quanta) }

pub section_offset-inputs-requires : goal.section_offset-inputs-requires
unfolding count_list
section_offset-inputs-requires c = (omega arith, limits (goal.at.section_offset-inputs-requires c).After-in_order-sizes)

pub slice_bounds-write_inputs-count : goal.slice_bounds-write_inputs-count
unfolding count_list
slice_bounds-write_inputs-count c =
    let before = (goal.at.slice_bounds-write_inputs-count c).After-write_integrators in
    inside (stage_integrators before) (omega arith) (rw (c.in_order-sizes.ensures) at c.section_offset-inputs.ensures)

pub slice_bounds-write_inputs-start : goal.slice_bounds-write_inputs-start
slice_bounds-write_inputs-start c = slice_bounds-write_inputs-count c

pub write_inputs-requires : goal.write_inputs-requires
unfolding count_list
write_inputs-requires c =
    let at = goal.at.write_inputs-requires c in
    let p = plan at.Start in
    let room = section_room (stage_integrators at.After-write_integrators) (omega arith) (rw (c.in_order-sizes.ensures) at c.section_offset-inputs.ensures) in
    let f = fitting p c.requires in
    record { counted = ((count-limits p c.requires.counts).m, room); fitting = f.firsts }

pub section_offset-nodes-requires : goal.section_offset-nodes-requires
unfolding count_list
section_offset-nodes-requires c = (omega arith, limits (goal.at.section_offset-nodes-requires c).After-in_order-sizes)

pub slice_bounds-write_nodes-count : goal.slice_bounds-write_nodes-count
unfolding count_list
slice_bounds-write_nodes-count c =
    let before = (goal.at.slice_bounds-write_nodes-count c).After-write_inputs in
    inside (stage_inputs before) (omega arith) (rw (c.in_order-sizes.ensures) at c.section_offset-nodes.ensures)

pub slice_bounds-write_nodes-start : goal.slice_bounds-write_nodes-start
slice_bounds-write_nodes-start c = slice_bounds-write_nodes-count c

pub write_nodes-requires : goal.write_nodes-requires
unfolding count_list
write_nodes-requires c =
    let at = goal.at.write_nodes-requires c in
    let p = plan at.Start in
    let room = section_room (stage_inputs at.After-write_inputs) (omega arith) (rw (c.in_order-sizes.ensures) at c.section_offset-nodes.ensures) in
    let f = fitting p c.requires in
    record { counted = ((count-limits p c.requires.counts).k, room); fitting = (f.kinds, f.a, f.b, f.lows, f.highs) }

pub section_offset-links-requires : goal.section_offset-links-requires
unfolding count_list
section_offset-links-requires c = (omega arith, limits (goal.at.section_offset-links-requires c).After-in_order-sizes)

pub slice_bounds-write_links-count : goal.slice_bounds-write_links-count
unfolding count_list
slice_bounds-write_links-count c =
    let before = (goal.at.slice_bounds-write_links-count c).After-write_nodes in
    inside (stage_nodes before) (omega arith) (rw (c.in_order-sizes.ensures) at c.section_offset-links.ensures)

pub slice_bounds-write_links-start : goal.slice_bounds-write_links-start
slice_bounds-write_links-start c = slice_bounds-write_links-count c

pub write_links-requires : goal.write_links-requires
unfolding count_list
write_links-requires c =
    let at = goal.at.write_links-requires c in
    let p = plan at.Start in
    let room = section_room (stage_nodes at.After-write_nodes) (omega arith) (rw (c.in_order-sizes.ensures) at c.section_offset-links.ensures) in
    let f = fitting p c.requires in
    record { counted = ((count-limits p c.requires.counts).links, room); fitting = (f.targets, f.sources, f.coefficients) }

pub section_offset-commands-requires : goal.section_offset-commands-requires
unfolding count_list
section_offset-commands-requires c = (omega arith, limits (goal.at.section_offset-commands-requires c).After-in_order-sizes)

pub slice_bounds-write_commands-count : goal.slice_bounds-write_commands-count
unfolding count_list
slice_bounds-write_commands-count c =
    let before = (goal.at.slice_bounds-write_commands-count c).After-write_links in
    inside (stage_links before) (omega arith) (rw (c.in_order-sizes.ensures) at c.section_offset-commands.ensures)

pub slice_bounds-write_commands-start : goal.slice_bounds-write_commands-start
slice_bounds-write_commands-start c = slice_bounds-write_commands-count c

pub write_commands-requires : goal.write_commands-requires
unfolding count_list
write_commands-requires c =
    let at = goal.at.write_commands-requires c in
    let p = plan at.Start in
    let room = section_room (stage_links at.After-write_links) (omega arith) (rw (c.in_order-sizes.ensures) at c.section_offset-commands.ensures) in
    let f = fitting p c.requires in
    record { counted = ((count-limits p c.requires.counts).commands, room); fitting = (f.ticks, f.inputs, f.values) }

pub shape_of-buffer : goal.shape_of-buffer
shape_of-buffer c = (stage_commands (goal.at.shape_of-buffer c).After-write_commands).begun.size

pub returns : goal.returns
unfolding count_list
returns c =
    let at = goal.at.returns c in
    let whole = filed (plan at.Start) c.args.buffer.now (rw (c.in_order-sizes.ensures) at c.section_offset-length.ensures) (stage_commands at.After-write_commands) in
    record { answer = whole.0; buffer = whole.1 }
