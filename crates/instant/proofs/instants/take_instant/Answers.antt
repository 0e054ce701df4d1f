-- The steps of the code are those of the law on instants, one after the other.
use mathlib.Core.Path.{◌∙◌}
use native.Mathlib.Omega.{arith}
use Rattle.instant.proofs.Laws.Instants as law
use Rattle.instant.proofs.Laws.Unread.{movable_read, moved_read}
use Rattle.instant.proofs.instants.take_instant.Goals as goal

pub overflow_add-base : goal.overflow_add-base
overflow_add-base c = let limits = law.limits _ _ c.requires.ready in omega (arith, limits.n, limits.m)

pub set_outputs-requires : goal.set_outputs-requires
set_outputs-requires c = law.outputs_ready _ _ c.requires.ready

pub obey_entries-commanded-requires : goal.obey_entries-commanded-requires
obey_entries-commanded-requires c = law.commands-ready _ _ c.requires.ready

pub union_shifted-changed-requires : goal.union_shifted-changed-requires
union_shifted-changed-requires c = ((law.limits _ _ c.requires.ready).n, law.due_below _ _ c.requires.ready)

pub work_out_nodes-requires : goal.work_out_nodes-requires
work_out_nodes-requires c =
    let output = c.set_outputs.ensures in
    let command = c.obey_entries-commanded.ensures in
    let told = c.reached_by-reached.ensures in (
      law.nodes-below _ _ c.requires.ready output command c.union_shifted-changed.ensures told.integrators told.nodes,
      law.nodes-ready_then _ _ c.requires.ready output command,
    )

pub write_events-end-requires : goal.write_events-end-requires
write_events-end-requires c =
    let told = c.reached_by-reached.ensures in
    law.events-ready_then _ _ c.requires.ready c.set_outputs.ensures c.obey_entries-commanded.ensures c.union_shifted-changed.ensures
    told.integrators told.nodes c.work_out_nodes.ensures

pub moved_set-moved-requires : goal.moved_set-moved-requires
moved_set-moved-requires c = (law.limits _ _ c.requires.ready).n

pub move_all-requires : goal.move_all-requires
move_all-requires c =
    let told = c.reached_by-reached.ensures in
    movable_read c.args.plan.now c.requires.unread _ _ _ _ _
    (law.moves-ready _ _ c.requires.ready c.set_outputs.ensures c.obey_entries-commanded.ensures c.union_shifted-changed.ensures
    told.integrators told.nodes c.work_out_nodes.ensures c.args.engine c.moved_set-moved.ensures)

pub overflow_add-instants : goal.overflow_add-instants
overflow_add-instants c = law.instants_fit _ _ c.requires.ready

pub overflow_add-updates : goal.overflow_add-updates
overflow_add-updates c = law.updates_fit _ _ c.requires.ready _ c.count.ensures

pub returns : goal.returns
returns c =
    let output = c.set_outputs.ensures in
    let command = c.obey_entries-commanded.ensures in
    let changed = c.union_shifted-changed.ensures in
    let told = c.reached_by-reached.ensures in
    let work = c.work_out_nodes.ensures in
    record {
      taken = λ unread ready.
          let bytes = law.events_then _ _ ready output command changed told.integrators told.nodes work in
          record {
            figures =
                law.running_then _ _ ready output command changed told.integrators told.nodes work c.args.engine
                c.moved_set-moved.ensures (moved_read c.args.plan.now unread _ _ _ _ _ c.move_all.ensures) c.count.ensures;
            sources = law.values_by-figures _ _ ready output command changed told.integrators told.nodes work;
            bytes = c.write_events-end.ensures.buffer ∙ rw bytes;
            place = c.write_events-end.ensures.end ∙ rw bytes;
          };
    }
