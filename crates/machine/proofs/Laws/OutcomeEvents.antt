-- Laws: the events of an instant, by who is due there, the position of each integrator there, and what was held before: how long they are,
-- that they are bytes, how each reads back, and that they are the same where two instants cannot be told apart. No other law opens
-- `outcome_events`. Assumes nothing.
use Rattle.std.specs.Prelude.{◌≡◌, Bool, true, List, ℕ, zero, ◌+◌, ◌*◌, ◌^◌, ◌≤◌, ◌<◌, ℤ, length}
use Rattle.std.proofs.Math.Path.{refl}
use Rattle.std.proofs.Common.{ap, arith}
use Rattle.integers.specs.Parts.{∣◌∣}
use Rattle.bitset.specs.Counts.{count_of}
use Rattle.words.specs.Word.{Bytes, word, signed_word}
use Rattle.bitset.proofs.Laws.Counts.{count_of_le}
use Rattle.plan.specs.Numbers.{M, event_bytes}
use Rattle.plan.specs.declared.Plan.{Plan}
use Rattle.machine.specs.Values.{value_with}
use Rattle.machine.specs.Held.{Held}
use Rattle.machine.specs.Reach.{woken, changes_by}
use Rattle.machine.specs.Instant.{events_at, outcome_by, outcome_events}
use Rattle.machine.specs.Runs.{events_most}
use Rattle.machine.proofs.Laws.SelectedBlocks.{joined_ext}
use Rattle.machine.proofs.Laws.EventWords.{length-events, bytes-events, events-tick, events-source, events-value}
use Rattle.machine.proofs.Laws.Alike.{held-alike, changes-alike}

module _ (p : Plan) (t : ℕ) (due : ℕ → Bool) (place : ℕ → ℤ) (h : Held) where
  abbrev bytes : List ℕ
  bytes = outcome_events p t due place h

  abbrev changed : ℕ → Bool
  changed = changes_by p t (woken due)

  abbrev then : Held
  then = (outcome_by p t due place h).held

  -- one of each source that changes, with its value after the instant
  pub outcome_is : bytes ≡ events_at p t changed then.q then.inputs
  unfolding outcome_events
  outcome_is = refl

  pub outcome-length : length bytes ≡ 12 * count_of changed (p.counts.n + p.counts.m)
  unfolding outcome_events
  outcome-length = length-events p t changed then.q then.inputs

  pub outcome-room : length bytes ≤ events_most p * event_bytes
  unfolding events_most
  outcome-room = omega (arith, outcome-length, count_of_le changed (p.counts.n + p.counts.m))

  pub outcome-bytes : Bytes bytes
  unfolding outcome_events
  outcome-bytes = bytes-events p t changed then.q then.inputs

  -- the event of source i stands behind those of the lower sources that have one
  module _ (i : ℕ) (l : i < p.counts.n + p.counts.m) (c : changed i ≡ true) where
    pub outcome-tick : t < 2 ^ 32 → word bytes (12 * count_of changed i) ≡ t
    unfolding outcome_events
    outcome-tick = events-tick p t changed then.q then.inputs i l c

    pub outcome-source : i < 2 ^ 32 → word bytes (12 * count_of changed i + 4) ≡ i
    unfolding outcome_events
    outcome-source = events-source p t changed then.q then.inputs i l c

    pub outcome-value : ∣ value_with p then.q then.inputs zero i ∣ ≤ M
        → signed_word bytes (12 * count_of changed i + 8) ≡ value_with p then.q then.inputs zero i
    unfolding outcome_events
    outcome-value = events-value p t changed then.q then.inputs i l c

-- ---- instants that cannot be told apart
pub events-alike : (p : Plan) {t t' : ℕ} {due due' : ℕ → Bool} {place place' : ℕ → ℤ} {h h' : Held}
    → ((i : ℕ) → i < p.counts.n → due i ≡ due' i) → t ≡ t' → ((i : ℕ) → i < p.counts.n → place i ≡ place' i) → h ≡ h'
    → outcome_events p t due place h ≡ outcome_events p t' due' place' h'
unfolding outcome_events events_at
events-alike p due tick place before =
    let held = held-alike p due tick place before in
    joined_ext _ _ (p.counts.n + p.counts.m) (λ i l. rw (changes-alike p due tick i, ap (λ h. h.q) held, ap (λ h. h.inputs) held, tick))
