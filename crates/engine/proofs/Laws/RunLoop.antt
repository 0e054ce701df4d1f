-- Laws: the turns of a run: what its loop keeps, from the first instant to the last, and what it leaves. Assumes nothing.
use Rattle.std.specs.Prelude.{◌≡◌, refl, true, false, List, [], ℕ, ◌+◌, ◌-◌, ◌≤◌, ◌<◌, ℤ}
use Rattle.std.proofs.Math.Path.{sym, ap}
use Rattle.std.proofs.Common.{subst, ◌∙◌, true≢false, arith, length-append}
use Rattle.std.proofs.Math.ListN.{length}
use Rattle.plan.specs.declared.Counts.{Counts}
use Rattle.plan.specs.declared.Plan.{Plan}
use Rattle.machine.specs.Instant.{instant, events_of}
use Rattle.machine.specs.Status.{is_paused, status_of, running_paused}
use Rattle.machine.specs.Runs.{after_run, events_of_run, events_most, room_of}
use Rattle.machine.specs.Sound.{RunningWidths}
use Rattle.machine.proofs.Laws.SoundClauses.{SoundRunning}
use Rattle.machine.proofs.Laws.Lengths.{instant-bytes}
use Rattle.machine.proofs.Laws.Runs.{run-stopped, run-taken}
use Rattle.machine.proofs.Laws.Shapes.{instant-shaped}
use Rattle.machine.proofs.Laws.Soundness.{instant-sound}
use Rattle.machine.proofs.Laws.SoundTest.{clauses_words}
use Rattle.machine.proofs.Laws.Status.{paused_true, is_paused_lem, true_paused}
use Rattle.machine.specs.declared.Clocks.{Clocks}
use Rattle.machine.specs.declared.Motion.{Motion}
use Rattle.machine.specs.declared.Running.{Running}
use Rattle.machine.specs.declared.Engine.{Engine}
use Rattle.machine.specs.declared.Status.TheVariants.{Paused}
use Rattle.values.specs.Sources.{values_of, outputs_in, inputs_in}
use Rattle.values.proofs.Laws.ReadOut.{outputs_read, inputs_read}
use Rattle.rates.specs.Links.{ranges_of}
use Rattle.reach.specs.Table.{reach_table}
use Rattle.engine.specs.Ahead.{ahead_of}
use Rattle.steps.specs.Events.{put_at}
use Rattle.moves.specs.Motion.{motion_of}
use Rattle.instant.specs.Instants.{running_of, InstantReady}
use Rattle.engine.specs.RunAnswer.{ended_of}
use Rattle.engine.proofs.Laws.Aheads.{lies_ahead, ahead_is}
use Rattle.steps.proofs.Laws.Buffers.{put-none, put-append, length-put}
use Rattle.engine.specs.declared.ahead.Ahead.{Ahead}
use Rattle.engine.specs.declared.runs.Ended.{Ended}

-- ---- outputs and input values that are read out of the values of sources
pub figures-read : (counts : Counts) (m : Motion) (values : List ℤ) (clocks : Clocks) {q u : List ℤ}
    → q ≡ outputs_in counts.n values → u ≡ inputs_in counts.n counts.m values
    → ◌≡◌ {A = Running} (record { x = m.x; q = q; s = m.s; l = m.l; d = m.d; inputs = u; clocks = clocks }) (running_of counts m values clocks)
figures-read counts m values clocks e f = rw (e, f)

-- those of the figures r, from the values of all sources by r
pub running_read : (p : Plan) (r : Running) → RunningWidths r → SoundRunning p r → {values : List ℤ} → values ≡ values_of p r.q r.inputs
    → r ≡ running_of p.counts (motion_of r) values r.clocks
running_read p r shaped ok {values} e =
    figures-read p.counts (motion_of r) values r.clocks
    (sym (rw e (outputs_read p ok.plan r.q r.inputs shaped.q ok.held.unused_outputs)))
    (sym (rw e (inputs_read p ok.plan r.q r.inputs shaped.inputs ok.held.unused-inputs)))

module _ (p : Plan) (engine : Engine) (budget : ℕ) (first : Running) (buffer₀ : List ℕ) where
  -- after `taken` instants: what is left of the run ends where the whole run ends, and its events go behind byte `end`
  pub record Progress (r : Running) (values : List ℤ) (ahead : Ahead) (end taken : ℕ) (buffer : List ℕ) : Type 0 where
    pub shaped : RunningWidths r
    pub sound : SoundRunning p r
    pub values_are : values ≡ values_of p r.q r.inputs
    pub ahead_is : ahead ≡ lies_ahead p r
    pub figures : after_run p engine (budget - taken) r ≡ after_run p engine budget first
    pub bytes : put_at buffer end (events_of_run p engine (budget - taken) r) ≡ put_at buffer₀ 0 (events_of_run p engine budget first)
    pub ends : end + length (events_of_run p engine (budget - taken) r) ≡ length (events_of_run p engine budget first)
    pub same_size : length buffer ≡ length buffer₀
    pub room : end + room_of p (budget - taken) ≤ length buffer

-- before the first instant
pub begun : (p : Plan) (engine : Engine) (budget : ℕ) (r : Running) (buffer : List ℕ) {values : List ℤ} {ahead : Ahead} → RunningWidths r → SoundRunning p r
    → values ≡ values_of p r.q r.inputs → ahead ≡ ahead_of p (motion_of r) r.clocks.next → room_of p budget ≤ length buffer
    → let first = running_of p.counts (motion_of r) values r.clocks in Progress p engine budget first buffer first values ahead 0 0 buffer
begun p engine budget r buffer {values} {ahead} shaped ok values_are known room =
    let all : budget - 0 ≡ budget = omega arith in
    subst (λ (first : Running). Progress p engine budget first buffer first values ahead 0 0 buffer) (running_read p r shaped ok values_are)
    (record {
      shaped = shaped;
      sound = ok;
      values_are = values_are;
      ahead_is = known ∙ ahead_is p r;
      figures = rw all;
      bytes = rw all;
      ends = rw all (omega arith);
      same_size = refl;
      room = rw all (omega (arith, room));
    })

module _ {p : Plan} {engine : Engine} {budget : ℕ} {first : Running} {buffer₀ : List ℕ} {r : Running}
    {values : List ℤ} {ahead : Ahead} {end taken : ℕ} {buffer : List ℕ}
    (now : Progress p engine budget first buffer₀ r values ahead end taken buffer) where
  status_is : ahead.status ≡ status_of p r
  status_is = rw now.ahead_is

  -- ---- one more instant
  module _ (more : taken < budget) (yes : is_paused ahead.status ≡ true) where
    paused_now : status_of p r ≡ Paused
    paused_now = sym status_is ∙ true_paused ahead.status yes

    paused : running_paused p r ≡ true
    paused = is_paused_lem p r paused_now

    left : budget - taken ≡ budget - (taken + 1) + 1
    left = omega (arith, more)

    pub instant-ready : {ranges reach : List ℕ} → ranges ≡ ranges_of p → reach ≡ reach_table p
        → InstantReady p ranges reach ahead.tick ahead.due r values end (length buffer)
    unfolding room_of
    instant-ready ranges_are reach_is =
        record {
          shaped = now.shaped;
          sound = clauses_words p r now.sound;
          paused = paused;
          tick = rw now.ahead_is;
          due-set = rw now.ahead_is;
          ranges_are = ranges_are;
          reach_is = reach_is;
          values_are = now.values_are;
          room = omega (arith, rw left at now.room);
        }

    -- its events leave room for those of the instants after it
    room_then : end + length (events_of p r) + room_of p (budget - (taken + 1)) ≤ length buffer
    unfolding room_of events_most
    room_then = omega (arith, instant-bytes p r, rw left at now.room)

    module _ {r' : Running} (taken_is : r' ≡ instant p engine r) where
      pub sound_then : SoundRunning p r'
      sound_then = rw taken_is (instant-sound p r now.sound paused engine)

      pub advanced : {values' : List ℤ} {ahead' : Ahead} {end' : ℕ} {buffer' : List ℕ} → values' ≡ values_of p r'.q r'.inputs
          → ahead' ≡ ahead_of p (motion_of r') r'.clocks.next → buffer' ≡ put_at buffer end (events_of p r) → end' ≡ end + length (events_of p r)
          → Progress p engine budget first buffer₀ r' values' ahead' end' (taken + 1) buffer'
      advanced values_are known buffer-is end_is =
          let next = run-taken p engine (budget - (taken + 1)) r paused_now in
          let rest = events_of_run p engine (budget - (taken + 1)) (instant p engine r) in
          let same_length = length-put buffer end (events_of p r) (omega (arith, room_then)) in
          record {
            shaped = rw taken_is (instant-shaped p engine r);
            sound = sound_then;
            values_are = values_are;
            ahead_is = known ∙ ahead_is p r';
            figures = rw (taken_is, ← next.0, ← left) now.figures;
            bytes =
                rw (buffer-is, end_is, taken_is, put-append buffer end (events_of p r) (omega (arith, room_then)) rest, ← next.1, ← left)
                now.bytes;
            ends = rw (end_is, taken_is) (omega (arith, length-append (events_of p r) rest, ap length next.1, rw left at now.ends));
            same_size = rw buffer-is (same_length ∙ now.same_size);
            room = rw (buffer-is, end_is) (omega (arith, room_then));
          }

  -- ---- the end
  -- what the code answers and leaves in the buffer, where nothing is left of the run; `given` are the figures that it was handed, r' those that it tells
  abbrev Done : Running → Running → Type 0
  Done given r' =
      ◌≡◌ {A = Ended} (record { status = ahead.status; written = end; run = r' }) (ended_of p engine budget given)
      × (buffer ≡ put_at buffer₀ 0 (events_of_run p engine budget given))

  module _ {given r' : Running} (begins : given ≡ first) (told : r' ≡ r) where
    done : (after_run p engine (budget - taken) r ≡ r) × (events_of_run p engine (budget - taken) r ≡ []) → Done given r'
    unfolding ended_of
    done none =
        let here : r ≡ after_run p engine budget first = sym none.0 ∙ now.figures in
        let written : end ≡ length (events_of_run p engine budget first) = omega (arith, now.ends, ap length none.1) in
        rw begins (rw (told, status_is, written, ← here), sym (put-none buffer end) ∙ rw none.1 at now.bytes)

    -- by the status
    pub stopped : is_paused ahead.status ≡ false → Done given r'
    stopped h =
        done (run-stopped p engine (budget - taken) r (λ e. true≢false (sym (paused_true ahead.status (status_is ∙ e)) ∙ h)))

    -- by the budget
    pub spent : budget ≤ taken → Done given r'
    unfolding after_run events_of_run
    spent h = let none : budget - taken ≡ 0 = omega (arith, h) in done (rw none (refl, refl))
