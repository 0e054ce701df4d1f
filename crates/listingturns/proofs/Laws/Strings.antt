-- Laws: the texts of a turn are UTF-8, so that each can be handed on as a string, and what stands where one was written over a buffer. Assumes nothing.
use Rattle.std.specs.Prelude.{◌≡◌, Bool, true, false, cond, List, [], ℕ, eqb, length, take, drop, IsUtf8}
use Rattle.std.proofs.Common.{sym, take_at}
use Rattle.std.proofs.lemmas.Str.{IsUtf8-nil, IsUtf8-append}
use Rattle.machine.specs.declared.State.{State}
use Rattle.machine.specs.declared.Engine.TheVariants.{Lazy}
use Rattle.listingtext.specs.Lines.{refusal_line}
use Rattle.listingtext.proofs.Laws.Strings.{lines_utf8, end_utf8, refusal_utf8}
use Rattle.calls.specs.Calls.{written_over, load_of, ran_events}
use Rattle.listingturns.specs.Listing.{event_lines, end_line_of}
use Rattle.listingturns.specs.Turns.{turn_state, turn_more, turn_text, begin_text}

pub begin_utf8 : (file : List ℕ) → IsUtf8 (begin_text file)
unfolding begin_text
begin_utf8 file = go (eqb (load_of file).number 0)
  where
    go : (accepts : Bool) → IsUtf8 (cond accepts [] (refusal_line (load_of file).number (load_of file).entry))
    go true = IsUtf8-nil
    go false = refusal_utf8 (load_of file).number (load_of file).entry

pub turn_utf8 : (st : State) → IsUtf8 (turn_text st)
unfolding turn_text event_lines end_line_of
turn_utf8 st = IsUtf8-append (event_lines (ran_events Lazy st 64)) _ (lines_utf8 _ _) (go (turn_more st))
  where
    go : (more : Bool) → IsUtf8 (cond more [] (end_line_of (turn_state st).plan (turn_state st).run))
    go true = IsUtf8-nil
    go false = end_utf8 _ _ _ _

-- the text stands at the start of the buffer that it was written over
pub front : (text before : List ℕ) {after : List ℕ} {size : ℕ} → size ≡ length text → after ≡ written_over text before → take size after ≡ text
front text before {after} {size} s e = rw e (take_at text (drop (length text) before) size (sym s))
