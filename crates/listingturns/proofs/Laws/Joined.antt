-- Laws: the texts of the turns, joined, are the listing. Assumes nothing.
use Rattle.std.specs.Prelude.{◌≡◌, refl, Bool, true, false, cond, List, [], ◌++◌, ℕ, zero, suc, ◌+◌, ◌/◌, ◌≤◌, ◌<◌, eqb, length, replicate}
use Rattle.std.proofs.Common.{sym, ap, ◌∙◌, true≢false, append_assoc, append-nil, arith, length-append}
use Rattle.std.proofs.Math.Nat.{add_comm}
use Rattle.plan.specs.Lists.{joined}
use Rattle.plan.proofs.Laws.CountLimits.{count-limits}
use Rattle.plan.specs.declared.Plan.{Plan}
use Rattle.machine.specs.Status.{status_of, running_paused}
use Rattle.machine.specs.Runs.{after_run, events_of_run}
use Rattle.machine.specs.Sound.{Sound}
use Rattle.machine.proofs.Laws.SoundClauses.{SoundRunning}
use Rattle.machine.proofs.Laws.Runs.{after_by_lem, run-stopped, run_sound, clock-moves}
use Rattle.machine.proofs.Laws.Status.{is_paused_lem}
use Rattle.machine.proofs.Laws.SoundTest.{clauses_words, words_clauses}
use Rattle.machine.specs.declared.Running.{Running}
use Rattle.machine.specs.declared.State.{State}
use Rattle.machine.specs.declared.Engine.TheVariants.{Lazy}
use Rattle.machine.specs.declared.Status.TheVariants.{Paused}
use Rattle.listingtext.specs.Lines.{lines_of, refusal_line}
use Rattle.listingtext.proofs.Laws.Lines.{lines_append}
use Rattle.calls.specs.Calls.{load_of, ran_state, ran_events}
use Rattle.calls.proofs.Proofs.Sound.{load_sound}
use Rattle.listingturns.specs.Listing.{event_lines, end_line_of, listing_of_run, listing_of}
use Rattle.listingturns.specs.Turns.{turn_state, turn_more, turn_text, begin_text, turns_from, printed_in}
use Rattle.listingturns.specs.Promises.{ListingStops, TurnsEnd, TurnsPrint}
use Rattle.listingturns.proofs.Laws.EventLists.{EventList, run-list}
use Rattle.listingturns.proofs.Laws.Ends.{after_parts, events-parts, stops, after_enough, events-enough}

pub listing-stops : ListingStops
listing-stops st ok = stops st.plan Lazy st.plan.horizon st.run (words_clauses st.plan st.run ok) (omega arith)

-- ---- lines of events behind events
pub lines_both : (front rest : List ℕ) → EventList front → EventList rest → event_lines (front ++ rest) ≡ event_lines front ++ event_lines rest
unfolding event_lines
lines_both front rest a b =
    let one : length front / 12 ≡ a.count = omega (arith, a.size) in
    let two : length rest / 12 ≡ b.count = omega (arith, b.size) in
    let both : length (front ++ rest) / 12 ≡ a.count + b.count = omega (arith, length-append front rest, a.size, b.size) in
    rw (one, two, both) (lines_append front rest a.count a.size b.count)

-- ---- the listing from a sound state on
module _ (p : Plan) (r : Running) (ok : SoundRunning p r) where
  pub event-list : (b : ℕ) → EventList (events_of_run p Lazy b r)
  event-list b = run-list p (omega (arith, count-limits p ok.plan.counts)) Lazy b r

  abbrev then : Running
  then = after_run p Lazy 64 r

  -- 64 instants, and the listing from there on
  pub listed_turn : SoundRunning p then → (b : ℕ) → p.horizon ≤ b + r.clocks.clock → listing_of_run p b r ≡ event_lines (events_of_run p Lazy 64 r) ++ listing_of_run p b then
  unfolding listing_of_run
  listed_turn next b h =
      let lists = run-list p (omega (arith, count-limits p ok.plan.counts)) Lazy in
      rw (
        ← after_enough p Lazy b 64 r ok h,
        ← events-enough p Lazy b 64 r ok h,
        add_comm b 64,
        after_parts p Lazy 64 b r,
        events-parts p Lazy 64 b r,
        lines_both (events_of_run p Lazy 64 r) (events_of_run p Lazy b then) (lists 64 r) (lists b then),
      )
      (append_assoc (event_lines (events_of_run p Lazy 64 r)) (event_lines (events_of_run p Lazy b then)) (end_line_of p (after_run p Lazy b then)))

  -- where the status is 1 or 2 already: the end line
  pub listed-stopped : (b : ℕ) → (status_of p r ≡ Paused → ⊥) → listing_of_run p b r ≡ end_line_of p r
  unfolding listing_of_run event_lines lines_of joined
  listed-stopped b s = let run = run-stopped p Lazy b r s in rw (run.0, run.1)

-- ---- a turn
pub turns_end : TurnsEnd
unfolding turn_state ran_state turn_more
turns_end st ok =
    let p = st.plan in
    let r = st.run in
    let before = words_clauses p r ok in
    let sound : SoundRunning p (after_run p Lazy 64 r) = rw (after_by_lem p Lazy 64 r) (run_sound p (replicate 64 Lazy) r before) in
    record {
      sound = clauses_words p (after_run p Lazy 64 r) sound;
      plan = refl;
      moves = λ e. (moved p r before e, sound.clock);
    }
  where
    moved : (p : Plan) (r : Running) → SoundRunning p r → running_paused p (after_run p Lazy 64 r) ≡ true → r.clocks.clock < (after_run p Lazy 64 r).clocks.clock
    moved p r ok = rw (after_by_lem p Lazy 64 r) (clock-moves p Lazy (replicate 63 Lazy) r ok)

-- ---- the turns from a sound state on are the listing from there on, in every budget that is enough
print_from : (turns : ℕ) (st : State) → Sound st → st.plan.horizon < turns + st.run.clocks.clock → (b : ℕ) → st.plan.horizon ≤ b + st.run.clocks.clock
    → turns_from turns st ≡ listing_of_run st.plan b st.run
unfolding turns_from turn_text turn_more turn_state ran_state ran_events
print_from zero st ok h b l = absurd (omega (arith, ok.clock))
print_from (suc turns) st ok h b l =
    go (turn_more st) refl
    (λ e. print_from turns (turn_state st) next (omega (arith, (turns_end st ok).moves e)) b (omega (arith, (turns_end st ok).moves e)))
  where
    p : Plan
    p = st.plan

    next : Sound (turn_state st)
    next = (turns_end st ok).sound

    now_sound : SoundRunning p st.run
    now_sound = words_clauses p st.run ok

    next-sound : SoundRunning p (turn_state st).run
    next-sound = words_clauses p (turn_state st).run next

    lines : List ℕ
    lines = event_lines (events_of_run p Lazy 64 st.run)

    go : (more : Bool) → turn_more st ≡ more → (turn_more st ≡ true → turns_from turns (turn_state st) ≡ listing_of_run p b (turn_state st).run)
        → (lines ++ cond more [] (end_line_of p (turn_state st).run)) ++ cond more (turns_from turns (turn_state st)) [] ≡ listing_of_run p b st.run
    go true e ih = rw (append-nil lines, ih e) (sym (listed_turn p st.run now_sound next-sound b l))
    go false e ih =
        rw (append-nil (lines ++ end_line_of p (turn_state st).run), listed_turn p st.run now_sound next-sound b l)
        (ap (λ end. lines ++ end) (sym (listed-stopped p (turn_state st).run next-sound b (λ paused. true≢false (sym (is_paused_lem p (turn_state st).run paused) ∙ e)))))

pub turns_print : TurnsPrint
unfolding printed_in begin_text listing_of
turns_print file turns h = go (eqb (load_of file).number 0)
  where
    st : State
    st = (load_of file).state

    refusal : List ℕ
    refusal = refusal_line (load_of file).number (load_of file).entry

    go : (accepts : Bool) → cond accepts [] refusal ++ cond accepts (turns_from turns st) []
        ≡ cond accepts (listing_of_run st.plan st.plan.horizon st.run) refusal
    go true = print_from turns st (load_sound file) (omega arith) st.plan.horizon (omega arith)
    go false = append-nil refusal
