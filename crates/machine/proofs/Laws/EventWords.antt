-- Laws: the events of an instant are read as they were written: tick, source and signed value of each. Assumes nothing.
use Rattle.std.specs.Prelude.{◌≡◌, Bool, true, List, [], ◌∷◌, ℕ, zero, ◌+◌, ◌*◌, ◌^◌, ◌≤◌, ◌<◌, ℤ, length}
use Rattle.std.proofs.Math.Path.{ap}
use Rattle.std.proofs.Common.{◌∙◌, add-zero, arith}
use Rattle.std.specs.Int.Signed.{mag}
use Rattle.integers.specs.Parts.{∣◌∣}
use Rattle.bitset.specs.Counts.{count_of}
use Rattle.words.specs.Word.{Bytes, number_at, signed_of, word, signed_word, word_of}
use Rattle.words.proofs.Laws.Flat.{bytes-flat, length-flat, word_flat}
use Rattle.words.proofs.Laws.Signs.{signed_unsigned, unsigned_lt}
use Rattle.plan.specs.Numbers.{M}
use Rattle.plan.proofs.Laws.Small.{size_mag}
use Rattle.plan.specs.declared.Plan.{Plan}
use Rattle.machine.specs.Values.{value_with}
use Rattle.machine.specs.Instant.{bytes_of_event, events_at}
use Rattle.machine.proofs.Laws.SelectedBlocks.{length_chosen, number_chosen, bytes_chosen}

-- ---- one event
module _ (t source : ℕ) (value : ℤ) where
  pub length-event : length (bytes_of_event t source value) ≡ 12
  unfolding bytes_of_event
  length-event = length-flat (t ∷ source ∷ word_of value ∷ [])

  pub event-tick : t < 2 ^ 32 → word (bytes_of_event t source value) 0 ≡ t
  unfolding bytes_of_event
  event-tick h = word_flat (t ∷ source ∷ word_of value ∷ []) 0 (omega arith) h

  pub event-source : source < 2 ^ 32 → word (bytes_of_event t source value) 4 ≡ source
  unfolding bytes_of_event
  event-source h = word_flat (t ∷ source ∷ word_of value ∷ []) 1 (omega arith) h

  pub event-value : ∣ value ∣ ≤ M → signed_word (bytes_of_event t source value) 8 ≡ value
  unfolding bytes_of_event
  event-value h =
      let small : mag value < 2 ^ 31 = omega (arith, size_mag value) in
      ap (signed_of 4) (word_flat (t ∷ source ∷ word_of value ∷ []) 2 (omega arith) (unsigned_lt 4 (omega arith) value small))
      ∙ signed_unsigned 4 (omega arith) value small

-- ---- the events of an instant
-- the bytes of source i's event
abbrev pub event_of : (p : Plan) (t : ℕ) (q u : List ℤ) (i : ℕ) → List ℕ
event_of p t q u i = bytes_of_event t i (value_with p q u zero i)

module _ (p : Plan) (t : ℕ) (changed : ℕ → Bool) (q u : List ℤ) where
  length-one : (i : ℕ) → length (event_of p t q u i) ≡ 12
  length-one i = length-event t i (value_with p q u zero i)

  pub length-events : length (events_at p t changed q u) ≡ 12 * count_of changed (p.counts.n + p.counts.m)
  unfolding events_at
  length-events = length_chosen changed (event_of p t q u) 12 length-one (p.counts.n + p.counts.m)

  -- the event of source i stands behind those of the sources below it
  module _ (i : ℕ) (h : i < p.counts.n + p.counts.m) (c : changed i ≡ true) where
    pub events-number : (bytes at : ℕ) → at + bytes ≤ 12
        → number_at bytes (events_at p t changed q u) (12 * count_of changed i + at) ≡ number_at bytes (event_of p t q u i) at
    unfolding events_at
    events-number bytes at l = number_chosen changed (event_of p t q u) 12 length-one bytes (p.counts.n + p.counts.m) i at h c l

    pub events-tick : t < 2 ^ 32 → word (events_at p t changed q u) (12 * count_of changed i) ≡ t
    events-tick s = rw add-zero at (events-number 4 0 (omega arith)) ∙ event-tick t i (value_with p q u zero i) s

    pub events-source : i < 2 ^ 32 → word (events_at p t changed q u) (12 * count_of changed i + 4) ≡ i
    events-source s = events-number 4 4 (omega arith) ∙ event-source t i (value_with p q u zero i) s

    pub events-value : ∣ value_with p q u zero i ∣ ≤ M
        → signed_word (events_at p t changed q u) (12 * count_of changed i + 8) ≡ value_with p q u zero i
    events-value s = ap (signed_of 4) (events-number 4 8 (omega arith)) ∙ event-value t i (value_with p q u zero i) s

-- the events are bytes
pub bytes-events : (p : Plan) (t : ℕ) (changed : ℕ → Bool) (q u : List ℤ) → Bytes (events_at p t changed q u)
unfolding events_at bytes_of_event
bytes-events p t changed q u = bytes_chosen changed (event_of p t q u) (λ i. bytes-flat _) (p.counts.n + p.counts.m)
