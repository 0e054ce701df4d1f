-- The tables of a sound state are those that its test hands on, and what a change of each source reaches.
use Rattle.machine.proofs.Laws.SoundTest.{sound_means}
use Rattle.reach.proofs.Laws.Reached.{table_ready}
use Rattle.soundness.proofs.Laws.Answers.{some_told, none_told}
use Rattle.cup.proofs.Laws.Tables.{tables_none, tables_are}
use Rattle.cup.proofs.cup_tables.Goals as goal

pub reach_table-reach-requires : goal.reach_table-reach-requires
reach_table-reach-requires c =
    let st = c.args.state in table_ready st.plan ((sound_means st).0 (some_told st c.in-Some.ensures).0).plan

pub returns : goal.returns
returns c = tables_are c.args.state c.in-Some.ensures c.reach_table-reach.ensures

pub returns-in_default : goal.returns-in_default
returns-in_default c = tables_none c.args.state (none_told c.args.state c.in_default.ensures)
