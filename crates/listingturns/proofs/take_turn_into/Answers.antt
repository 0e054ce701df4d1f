-- The run is accepted, its lines are written, and behind the last of them the end line.
use Rattle.listingturns.proofs.Laws.Answers.{lines_inside, turn_paused, paused_written, end-room, turn_stopped, stopped_written}
use Rattle.listingturns.proofs.take_turn_into.Goals as goal

pub write_lines-lines-requires : goal.write_lines-lines-requires
write_lines-lines-requires c =
    let a = c.args in
    let r = c.requires in
    let ran = c.run_lazy-ran.ensures in
    lines_inside a.state r.sound a.events.now r.room.0 ran.answer ran.buffer r.room.1

pub returns-then-ran-eq-PAUSED : goal.returns-then-ran-eq-PAUSED
returns-then-ran-eq-PAUSED c =
    let a = c.args in
    let r = c.requires in
    let ran = c.run_lazy-ran.ensures in
    let paused = c.if-ran-eq-PAUSED.true in
    let turn = turn_paused a.state r.sound a.events.now r.room.0 ran.answer ran.buffer paused in
    let written =
    paused_written a.state r.sound a.events.now r.room.0 ran.answer ran.buffer r.room.1 c.write_lines-lines.ensures paused
    in
    record { size = written.0; answer = turn.0; events = written.1.0; text = written.1.1 }

pub write_end-end-requires : goal.write_end-end-requires
write_end-end-requires c =
    let a = c.args in
    let r = c.requires in
    let ran = c.run_lazy-ran.ensures in
    end-room a.state r.sound a.events.now r.room.0 ran.answer ran.buffer r.room.1 c.write_lines-lines.ensures

pub returns : goal.returns
returns c =
    let a = c.args in
    let r = c.requires in
    let ran = c.run_lazy-ran.ensures in
    let stopped = c.if-ran-eq-PAUSED.false in
    let turn = turn_stopped a.state r.sound a.events.now r.room.0 ran.answer ran.buffer stopped in
    let written =
    stopped_written a.state r.sound a.events.now r.room.0 ran.answer ran.buffer r.room.1 c.write_lines-lines.ensures c.write_end-end.ensures stopped
    in
    record { size = written.0; answer = turn.0; events = written.1.0; text = written.1.1 }
