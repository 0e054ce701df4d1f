-- Laws: the program's loop: each turn has a sound state and a text inside the buffer that it is written over, and the ticks that are left fall. Assumes nothing.
use Rattle.std.specs.Prelude.{◌≡◌, refl, Bool, true, false, cond, List, ℕ, suc, ◌-◌, ◌≤◌, ◌<◌, length, drop, eqb}
use Rattle.std.proofs.Common.{ap, arith, length-append}
use Rattle.machine.specs.Sound.{Sound}
use Rattle.machine.specs.declared.State.{State}
use Rattle.calls.specs.Calls.{written_over, load_of}
use Rattle.calls.proofs.Proofs.Sound.{load_sound}
use Rattle.listingturns.specs.Turns.{turn_state, turn_more, turn_of, begin_of}
use Rattle.listingturns.specs.declared.Turn.{Turn}
use Rattle.listingturns.specs.declared.Turn.TheVariants.{More, Last}
use Rattle.listingturns.proofs.Laws.Joined.{turns_end}

-- the state that is answered, and what is known of it
abbrev pub state_of : Turn → State
state_of (More st) = st
state_of (Last st) = st

abbrev pub Ready : Turn → Type 0
Ready turn = Sound (state_of turn)

pub sound : {turn : Turn} {st : State} → Ready turn → turn ≡ More st → Sound st
sound r e = rw e at r

-- and of its text, where it is written over a buffer
pub inside : (text before : List ℕ) {after : List ℕ} → after ≡ written_over text before → length text ≤ length after
inside text before e = omega (arith, ap length e, length-append text (drop (length text) before))

pub first-ready : (file : List ℕ) {turn : Turn} → turn ≡ begin_of file → Ready turn
unfolding begin_of
first-ready file e = rw e (go (eqb (load_of file).number 0))
  where
    go : (accepts : Bool) → Ready (cond accepts (More (load_of file).state) (Last (load_of file).state))
    go true = load_sound file
    go false = load_sound file

pub turn_ready : (st : State) {turn : Turn} → Sound st → turn ≡ turn_of st → Ready turn
unfolding turn_of
turn_ready st ok e = rw e (go (turn_more st))
  where
    go : (more : Bool) → Ready (cond more (More (turn_state st)) (Last (turn_state st)))
    go true = (turns_end st ok).sound
    go false = (turns_end st ok).sound

-- ---- the measure: the ticks up to the horizon, or none where no turn follows
unfoldable pub ticks_left : Turn → ℕ
ticks_left (More st) = suc (st.plan.horizon - st.run.clocks.clock)
ticks_left (Last st) = 0

pub ticks_fall : (st : State) {turn : Turn} → Sound st → turn ≡ turn_of st → ticks_left turn < ticks_left (More st)
unfolding ticks_left turn_of
ticks_fall st ok e = rw e (go (turn_more st) refl)
  where
    go : (more : Bool) → turn_more st ≡ more
        → ticks_left (cond more (More (turn_state st)) (Last (turn_state st))) < suc (st.plan.horizon - st.run.clocks.clock)
    go true m = let end = turns_end st ok in rw end.plan (omega (arith, end.moves m))
    go false m = omega arith
