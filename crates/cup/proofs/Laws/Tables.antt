-- Laws: the tables of a sound state, and of one that is not, from what the test of the state hands on.
use Rattle.std.specs.Prelude.{◌≡◌, false, List, ℕ, Some, pos, replicate}
use Rattle.machine.specs.SoundTest.{is_sound}
use Rattle.machine.specs.declared.State.{State}
use Rattle.reach.specs.Table.{reach_table}
use Rattle.soundness.specs.Testing.{tested_of}
use Rattle.soundness.proofs.Laws.Answers.{some_told}
use Rattle.soundness.specs.declared.Tested.{Tested}
use Rattle.cup.specs.declared.Tables.{Tables}
use Rattle.cup.specs.Tables.{tables_of}

module _ (st : State) where
  pub tables_none : is_sound st ≡ false
      → ◌≡◌ {A = Tables} (record { ranges = replicate 33 0; reach = replicate 64 0; values = replicate 64 (pos 0) }) (tables_of st)
  unfolding tables_of
  tables_none e = rw e

  -- the tables that were handed on, with what a change of each source reaches
  pub tables_are : {t : Tested} {reach : List ℕ} → Some t ≡ tested_of st → reach ≡ reach_table st.plan
      → ◌≡◌ {A = Tables} (record { ranges = t.ranges; reach = reach; values = t.values }) (tables_of st)
  unfolding tables_of
  tables_are answer reached = let told = some_told st answer in rw (reached, told.1, told.0)
