-- Promise: of files, loading, the places of the numbers, the section view, and round trips. Statements; the proofs stand in Proofs.
use Rattle.std.specs.Prelude.{◌≡◌, ◌⊎◌, List, [], ◌++◌, ℕ, ◌+◌, ◌*◌, ◌≤◌, ◌<◌, length, take, drop}
use Rattle.words.specs.Word.{Bytes, word}
use Rattle.plan.specs.Format.{PlanWidths, plan_in}
use Rattle.plan.specs.Refusals.{section_of, section_start}
use Rattle.plan.specs.Rules.{Answered}
use Rattle.plan.specs.Places.{HeaderPlaces, EntryPlaces}
use Rattle.machine.specs.Start.{start_state, idle_state}
use Rattle.machine.specs.Sound.{RunningWidths, Sound}
use Rattle.machine.specs.declared.State.{State}
use Rattle.calls.specs.Calls.{load_of, write_of, buffer_of_write}

-- ════ Demand 1: every file of any length and content is loaded, or refused by number and entry

-- "Load accepts every file that meets none of 1 to 9", else the state is idle
pub record LoadPromise (file : List ℕ) : Type 0 where
  pub answered : Answered file (load_of file).number (load_of file).entry
  pub started : (load_of file).number ≡ 0 → (load_of file).state ≡ start_state (plan_in file)
  pub idle : ((load_of file).number ≡ 0 → ⊥) → (load_of file).state ≡ idle_state

abbrev pub EveryFile : Type 0
EveryFile = (file : List ℕ) → LoadPromise file

-- where each number of a file stands, by the records of Places.antt of the crate `plan`: the header of any file, and the entries of one whose sections
-- are of the right size. The refusals speak of these numbers
abbrev pub EveryHeader : Type 0
EveryHeader = (file : List ℕ) → HeaderPlaces file

abbrev pub EveryPlace : Type 0
EveryPlace = (file : List ℕ) → ((load_of file).number ≡ 0) ⊎ (3 < (load_of file).number) → EntryPlaces file (plan_in file)

-- The section view: "that part of the caller's own file", by the directory, "or an empty part"
pub record ViewPromise (file : List ℕ) (number : ℕ) : Type 0 where
  pub shown : (load_of file).number ≡ 0 → number ≤ 4
      → section_of file number ≡ take (word file (8 + 8 * number)) (drop (word file (4 + 8 * number)) file)
  pub whole : (load_of file).number ≡ 0 → number ≤ 4 → length (section_of file number) ≡ word file (8 + 8 * number)
  pub place : (load_of file).number ≡ 0 → number ≤ 4 → section_start file number ≡ word file (4 + 8 * number)
  pub refused : ((load_of file).number ≡ 0 → ⊥) → section_of file number ≡ []
  pub above : 4 < number → section_of file number ≡ []

abbrev pub EveryView : Type 0
EveryView = (file : List ℕ) (number : ℕ) → ViewPromise file number

-- ════ Demand 2: written and loaded plans come back equal

-- from a state a file is written back: its length and its bytes, and the buffer's later bytes kept
pub record WrittenBack (file buffer : List ℕ) (st : State) : Type 0 where
  pub number : (write_of st buffer).number ≡ 0
  pub size : (write_of st buffer).length ≡ length file
  pub state : (write_of st buffer).state ≡ st
  pub bytes : buffer_of_write st buffer ≡ file ++ drop (length file) buffer

-- so an accepted file is, from the loaded state and from every sound state of its plan, such as runs leave
pub record WrittenBackPromise (file buffer : List ℕ) : Type 0 where
  pub loaded : WrittenBack file buffer (load_of file).state
  pub later : (st : State) → Sound st → st.plan ≡ plan_in file → WrittenBack file buffer st

abbrev pub LoadThenWrite : Type 0
LoadThenWrite = (file buffer : List ℕ) → Bytes file → (load_of file).number ≡ 0 → length file ≤ length buffer → WrittenBackPromise file buffer

-- what was written for a sound state is loaded as that plan's start. `PlanWidths` says that the plan is one that a struct can hold
pub record LoadedBack (st : State) (buffer : List ℕ) : Type 0 where
  pub number : (load_of (take (write_of st buffer).length (buffer_of_write st buffer))).number ≡ 0
  pub entry : (load_of (take (write_of st buffer).length (buffer_of_write st buffer))).entry ≡ 0
  pub state : (load_of (take (write_of st buffer).length (buffer_of_write st buffer))).state ≡ start_state st.plan

abbrev pub WriteThenLoad : Type 0
WriteThenLoad = (st : State) (buffer : List ℕ) → PlanWidths st.plan → (write_of st buffer).number ≡ 0 → LoadedBack st buffer

-- a loaded state is one that a struct can hold
abbrev pub LoadWidths : Type 0
LoadWidths = (file : List ℕ) → PlanWidths (load_of file).state.plan × RunningWidths (load_of file).state.run
