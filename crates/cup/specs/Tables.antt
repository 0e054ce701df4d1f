-- Model of the code: the tables of a state, for tests, those that a run starts with, or all 0 where the state is not sound.
use Rattle.std.specs.Prelude.{cond, ◌+◌, pos, replicate}
use Rattle.plan.specs.Numbers.{most_integrators, source_width}
use Rattle.machine.specs.SoundTest.{is_sound}
use Rattle.machine.specs.declared.State.{State}
use Rattle.values.specs.Sources.{values_of}
use Rattle.rates.specs.Links.{ranges_of}
use Rattle.reach.specs.Table.{reach_table}
use Rattle.cup.specs.declared.Tables.{Tables}

unfoldable pub tables_of : State → Tables
tables_of st =
    cond (is_sound st)
    (record { ranges = ranges_of st.plan; reach = reach_table st.plan; values = values_of st.plan st.run.q st.run.inputs })
    (record { ranges = replicate (most_integrators + 1) 0; reach = replicate source_width 0; values = replicate source_width (pos 0) })
