-- Laws: what is printed fits the program's buffer: 64 instants have at most 2,560 events of 26 characters, and the end line has 40. Assumes
-- nothing.
use Rattle.std.specs.Prelude.{refl, Bool, true, false, cond, List, [], ◌++◌, ℕ, ◌/◌, ◌≤◌, eqb}
use Rattle.std.proofs.Common.{arith, length-append, length-take}
use Rattle.std.proofs.Math.ListN.{length}
use Rattle.words.specs.Word.{Bytes}
use Rattle.plan.specs.declared.Plan.{Plan}
use Rattle.machine.specs.Status.{status_number, status_of}
use Rattle.machine.specs.Runs.{events_of_run}
use Rattle.machine.specs.Sound.{Sound}
use Rattle.machine.proofs.Laws.SoundClauses.{SoundRunning}
use Rattle.machine.proofs.Laws.Lengths.{events_are_bytes}
use Rattle.machine.proofs.Laws.Status.{number-most}
use Rattle.machine.proofs.Laws.SoundTest.{words_clauses}
use Rattle.machine.specs.declared.Running.{Running}
use Rattle.machine.specs.declared.State.{State}
use Rattle.machine.specs.declared.Engine.TheVariants.{Lazy}
use Rattle.listingtext.specs.Decimal.{signed_decimal}
use Rattle.listingtext.proofs.Laws.Decimals.{decimal-one, length-decimal, decimal-digits, decimal-first, decimal-read}
use Rattle.listingtext.proofs.Laws.Sizes.{lines_most, end-most, refusal_most}
use Rattle.listingtext.specs.Lines.{refusal_line}
use Rattle.calls.specs.Calls.{load_of, ran_state, ran_events}
use Rattle.calls.proofs.Proofs.Limits.{limits}
use Rattle.calls.proofs.Proofs.StateLimits.{state-limits}
use Rattle.listingturns.specs.Listing.{event_lines, end_line_of}
use Rattle.listingturns.specs.Turns.{turn_state, turn_more, turn_text, begin_text}
use Rattle.listingturns.specs.Promises.{NumberTexts, ListingPromise, TextsFit, LongRefused}
use Rattle.listingturns.proofs.Laws.Joined.{event-list, listing-stops, turns_end, turns_print}

module _ (p : Plan) (r : Running) (ok : SoundRunning p r) where
  -- at most 2,560 events of 12 bytes
  pub bytes_most : length (events_of_run p Lazy 64 r) ≤ 30720
  bytes_most = omega (arith, (state-limits p r ok).bytes Lazy 64, (state-limits p r ok).listing)

  pub lines_fit : length (event_lines (events_of_run p Lazy 64 r)) ≤ 66560
  unfolding event_lines
  lines_fit =
      let list = event-list p r ok 64 in
      let count : length (events_of_run p Lazy 64 r) / 12 ≤ list.count = omega (arith, list.size) in
      omega (arith, bytes_most, lines_most (events_are_bytes p Lazy 64 r) (length (events_of_run p Lazy 64 r) / 12) (λ i h. list.sources i (omega arith)))

  pub closing_fits : length (end_line_of p r) ≤ 40
  unfolding end_line_of
  closing_fits =
      let printed = (state-limits p r ok).printed in
      let number = status_number (status_of p r) in
      end-most number r.clocks.clock r.clocks.instants r.clocks.updates (omega (arith, number-most (status_of p r))) printed.clock printed.instants printed.updates

pub turn_fits : (st : State) → Sound st → length (turn_text st) ≤ 66600
unfolding turn_text turn_state ran_state ran_events
turn_fits st ok = go (turn_more st)
  where
    now_sound : SoundRunning st.plan st.run
    now_sound = words_clauses st.plan st.run ok

    lines : List ℕ
    lines = event_lines (events_of_run st.plan Lazy 64 st.run)

    go : (more : Bool) → length (lines ++ cond more [] (end_line_of st.plan (turn_state st).run)) ≤ 66600
    go true = omega (arith, length-append lines [], lines_fit st.plan st.run now_sound)
    go false =
        omega (
          arith,
          length-append lines (end_line_of st.plan (turn_state st).run),
          lines_fit st.plan st.run now_sound,
          closing_fits st.plan (turn_state st).run (words_clauses st.plan (turn_state st).run (turns_end st ok).sound),
        )

pub refusal_fits : (file : List ℕ) → Bytes file → length (refusal_line (load_of file).number (load_of file).entry) ≤ 14
refusal_fits file b =
    let file_limits = limits.files file b in
    refusal_most (load_of file).number (load_of file).entry (omega (arith, file_limits.number)) (omega (arith, file_limits.entry))

first_fits : (file : List ℕ) → Bytes file → length (begin_text file) ≤ 14
unfolding begin_text
first_fits file b = go (eqb (load_of file).number 0)
  where
    go : (accepts : Bool) → length (cond accepts [] (refusal_line (load_of file).number (load_of file).entry)) ≤ 14
    go true = omega arith
    go false = refusal_fits file b

pub texts_fit : TextsFit
texts_fit = (turn_fits, first_fits)

pub long-refused : LongRefused
long-refused input h e =
    let longest = rw length-take at (limits.accepted-files _ e).longest in
    omega (arith, longest)

number_texts : NumberTexts
unfolding signed_decimal
number_texts =
    record {
      read = decimal-read;
      digits = decimal-digits;
      zero_text = decimal-one 0 (omega arith);
      no_zero = decimal-first;
      from_zero = λ n. refl;
      below_zero = λ n. refl;
      most = λ n h. length-decimal 19 n (omega (arith, h));
    }

pub listing_promise : ListingPromise
listing_promise =
    record {
      number_texts = number_texts;
      stops = listing-stops;
      turns_end = turns_end;
      turns_print = turns_print;
      texts_fit = texts_fit;
      long-refused = long-refused;
    }
