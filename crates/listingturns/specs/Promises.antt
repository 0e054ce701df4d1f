-- Promise: of the listing program. Statements; the proofs stand in Laws.
use Rattle.std.specs.Prelude.{◌≡◌, true, List, [], ◌∷◌, ℕ, suc, ◌^◌, ◌≤◌, ◌<◌, pos, neg_ℤ, length, take}
use Rattle.words.specs.Word.{Bytes}
use Rattle.plan.specs.Lists.{nat_at}
use Rattle.machine.specs.Status.{status_of}
use Rattle.machine.specs.Runs.{after_run}
use Rattle.machine.specs.Sound.{Sound}
use Rattle.machine.specs.declared.State.{State}
use Rattle.machine.specs.declared.Engine.TheVariants.{Lazy}
use Rattle.machine.specs.declared.Status.TheVariants.{Paused}
use Rattle.listingtext.specs.Decimal.{decimal, signed_decimal}
use Rattle.listingtext.specs.Decimal.{read_from}
use Rattle.calls.specs.Calls.{load_of}
use Rattle.listingturns.specs.Listing.{listing_of}
use Rattle.listingturns.specs.Turns.{text_space, refusal_space, turn_state, turn_more, turn_text, begin_text, printed_in}

-- a lazy run with the horizon for a budget ends with status 1 or 2
abbrev pub ListingStops : Type 0
ListingStops = (st : State) → Sound st → status_of st.plan (after_run st.plan Lazy st.plan.horizon st.run) ≡ Paused → ⊥

-- The loop ends: a turn leaves a sound state of the same plan, and where another turn follows it has moved the clock on, which never
-- passes the horizon.
pub record TurnPromise (st : State) : Type 0 where
  pub sound : Sound (turn_state st)
  pub plan : (turn_state st).plan ≡ st.plan
  pub moves : turn_more st ≡ true → (st.run.clocks.clock < (turn_state st).run.clocks.clock) × ((turn_state st).run.clocks.clock ≤ st.plan.horizon)

abbrev pub TurnsEnd : Type 0
TurnsEnd = (st : State) → Sound st → TurnPromise st

-- the texts of the turns, joined, are the listing: for every number of turns that is above the horizon, and so for all that are taken
abbrev pub TurnsPrint : Type 0
TurnsPrint = (file : List ℕ) (turns : ℕ) → (load_of file).state.plan.horizon < turns → printed_in turns file ≡ listing_of file

-- what a turn prints fits the program's buffer, and so does a refusal
abbrev pub TextsFit : Type 0
TextsFit = ((st : State) → Sound st → length (turn_text st) ≤ text_space) × ((file : List ℕ) → Bytes file → length (begin_text file) ≤ refusal_space)

-- "reads at most 4,493 bytes of standard input": one more than the longest file that is accepted, so that of a longer input nothing is listed
abbrev pub LongRefused : Type 0
LongRefused = (input : List ℕ) → 4492 < length input → (load_of (take 4493 input)).number ≡ 0 → ⊥

-- what the text of a number is: its decimal digits, by which it is read back, with no 0 in front of others, so that 0 is the one digit 0, and
-- '-' in front where it is below 0
pub record NumberTexts : Type 0 where
  pub read : (n : ℕ) → read_from 0 (decimal n) ≡ n
  pub digits : (n i : ℕ) → i < length (decimal n) → (48 ≤ nat_at (decimal n) i) × (nat_at (decimal n) i ≤ 57)
  pub zero_text : decimal 0 ≡ 48 ∷ []
  pub no_zero : (n : ℕ) → 1 ≤ n → 49 ≤ nat_at (decimal n) 0
  pub from_zero : (n : ℕ) → signed_decimal (pos n) ≡ decimal n
  pub below_zero : (n : ℕ) → signed_decimal (neg_ℤ (pos (suc n))) ≡ 45 ∷ decimal (suc n)
  -- of a 64-bit number there are at most 20
  pub most : (n : ℕ) → n < 2 ^ 64 → length (decimal n) ≤ 20

pub record ListingPromise : Type 0 where
  pub number_texts : NumberTexts
  pub stops : ListingStops
  pub turns_end : TurnsEnd
  pub turns_print : TurnsPrint
  pub texts_fit : TextsFit
  pub long-refused : LongRefused
