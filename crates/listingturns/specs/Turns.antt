-- Model of the code: the turns of the program's loop, a run with budget 64 and its text each, "until status 1 or 2".
use Rattle.std.specs.Prelude.{Bool, cond, List, [], ◌++◌, ℕ, zero, suc, ◌+◌, ◌*◌, eqb}
use Rattle.plan.specs.Numbers.{listing_budget, most_integrators, most_inputs, event_bytes, acceptance}
use Rattle.machine.specs.Status.{running_paused}
use Rattle.machine.specs.declared.State.{State}
use Rattle.machine.specs.declared.Engine.TheVariants.{Lazy}
use Rattle.listingtext.specs.Lines.{refusal_line}
use Rattle.calls.specs.Calls.{load_of, ran_state, ran_events}
use Rattle.listingturns.specs.Listing.{event_lines, end_line_of}
use Rattle.listingturns.specs.declared.Turn.{Turn}
use Rattle.listingturns.specs.declared.Turn.TheVariants.{More, Last}

-- the room that a turn's buffers need: its events, 64 × 40 × 12 bytes, and its text, 64 × 40 lines of up to 26 characters and an end line
-- of up to 40; and the room that a refusal needs
abbrev pub event_space : ℕ
event_space = listing_budget * (most_integrators + most_inputs) * event_bytes

abbrev pub text_space : ℕ
text_space = listing_budget * (most_integrators + most_inputs) * 26 + 40

abbrev pub refusal_space : ℕ
refusal_space = 14

module _ (st : State) where
  -- "runs lazily with budget 64": the state after it
  unfoldable pub turn_state : State
  turn_state = ran_state Lazy st listing_budget

  -- "until status 1 or 2": another turn follows
  unfoldable pub turn_more : Bool
  turn_more = running_paused turn_state.plan turn_state.run

  -- the lines of its events, and behind the last turn's the end line
  unfoldable pub turn_text : List ℕ
  turn_text = event_lines (ran_events Lazy st listing_budget) ++ cond turn_more [] (end_line_of turn_state.plan turn_state.run)

  -- what the code answers for it
  unfoldable pub turn_of : Turn
  turn_of = cond turn_more (More turn_state) (Last turn_state)

-- Before the first turn: nothing is printed for an accepted file, and the refusal for another, with no turn behind it.
unfoldable pub begin_text : List ℕ → List ℕ
begin_text file = cond (eqb (load_of file).number acceptance) [] (refusal_line (load_of file).number (load_of file).entry)

unfoldable pub begin_of : List ℕ → Turn
begin_of file = cond (eqb (load_of file).number acceptance) (More (load_of file).state) (Last (load_of file).state)

-- the texts of at most so many turns, joined
unfoldable pub turns_from : ℕ → State → List ℕ
turns_from zero st = []
turns_from (suc turns) st = turn_text st ++ cond (turn_more st) (turns_from turns (turn_state st)) []

-- and with what stands before them: all that the program's loop prints for a file, in at most so many turns
unfoldable pub printed_in : ℕ → List ℕ → List ℕ
printed_in turns file = begin_text file ++ cond (eqb (load_of file).number acceptance) (turns_from turns (load_of file).state) []
