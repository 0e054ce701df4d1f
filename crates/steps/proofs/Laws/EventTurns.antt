-- Laws: the events of a mask are that of its lowest source and then those of the rest: the turns of the loop that writes them. Assumes
-- nothing.
use Rattle.std.specs.Prelude.{◌≡◌, refl, Bool, true, false, cond, ℕ, zero, suc, ◌+◌, ◌^◌, ◌≤◌, ◌<◌, ℤ, length}
use Rattle.std.proofs.Math.Path.{sym}
use Rattle.std.proofs.Common.{ap, ◌∙◌, arith, length-append}
use Rattle.std.proofs.lemmas.Bool.{and_parts}
use mathlib.Core.List.{List, [], ◌++◌, append_assoc, append-nil}
use Rattle.std.specs.Int.Signed.{mag}
use Rattle.bitset.specs.Mask.{has, each, lowest_of, rest_of}
use Rattle.bitset.proofs.Laws.Visiting.{rest_lt, lowest_lt, has-lowest, has_rest, each_step, each_done}
use Rattle.plan.specs.Lists.{int_at, joined}
use Rattle.plan.proofs.Laws.Small.{size_mag}
use Rattle.machine.specs.Instant.{bytes_of_event}
use Rattle.machine.proofs.Laws.EventWords.{length-event}
use Rattle.steps.specs.Events.{events_in, put_at, EventsReady}
use Rattle.steps.proofs.Laws.Buffers.{length-put, put-none, put-append}

-- lists of those numbers that pass a test, one behind the other, as a loop that appends
each_append : (f : ℕ → List ℕ) (test : ℕ → Bool) (n : ℕ) (s : List ℕ)
    → each (λ i l. l ++ f i) test n s ≡ s ++ joined (λ i. cond (test i) (f i) []) n
unfolding each joined
each_append f test zero s = sym (append-nil s)
each_append f test (suc n) s = go (test n) (each_append f test n s)
  where
    before : List ℕ
    before = joined (λ i. cond (test i) (f i) []) n

    go : (b : Bool) {l : List ℕ} → l ≡ s ++ before → cond b (l ++ f n) l ≡ s ++ (before ++ cond b (f n) [])
    go true e = rw (e, append_assoc)
    go false e = rw (e, append-nil)

module _ (t : ℕ) (values : List ℤ) where
  abbrev pub event_of : ℕ → List ℕ
  event_of i = bytes_of_event t i (int_at values i)

  module _ (m : ℕ) where
    pub events-first : 0 < m → m < 2 ^ 64 → events_in t m values ≡ event_of (lowest_of 64 m) ++ events_in t (rest_of m) values
    unfolding events_in
    events-first p h =
        sym (each_append event_of (has m) 64 []) ∙ each_step (λ i l. l ++ event_of i) 64 m [] p h
        ∙ each_append event_of (has (rest_of m)) 64 (event_of (lowest_of 64 m))

    pub events-none : m ≡ 0 → events_in t m values ≡ []
    unfolding events_in
    events-none e = sym (each_done (λ i l. l ++ event_of i) 64 m [] _ e (each_append event_of (has m) 64 []))

-- what is in the rest of a mask is in the mask
rest_within : (m : ℕ) → 0 < m → m < 2 ^ 64 → (i : ℕ) → has (rest_of m) i ≡ true → has m i ≡ true
rest_within m p h i e = (and_parts _ _ (rw (has_rest 64 m i p h) at e)).0

-- The loop over the mask m, which began at byte `at` of s: the sources in `left` are left, for byte `end` of r on.
pub record Writing (t : ℕ) (values : List ℤ) (m at : ℕ) (s : List ℕ) (left end : ℕ) (r : List ℕ) : Type 0 where
  pub fits : left < 2 ^ 64
  pub size : length r ≡ length s
  pub ready : EventsReady t left values end (length s)
  pub place : end + length (events_in t left values) ≡ at + length (events_in t m values)
  pub bytes : put_at r end (events_in t left values) ≡ put_at s at (events_in t m values)

pub begun : {t : ℕ} {values : List ℤ} {m at : ℕ} {s : List ℕ} → m < 2 ^ 64 → EventsReady t m values at (length s) → Writing t values m at s m at s
begun h ready = record { fits = h; size = refl; ready = ready; place = refl; bytes = refl }

module _ {t : ℕ} {values : List ℤ} {m at : ℕ} {s : List ℕ} {left end : ℕ} {r : List ℕ} (w : Writing t values m at s left end r) where
  -- none is left
  pub finished : left ≡ 0 → (end ≡ at + length (events_in t m values)) × (r ≡ put_at s at (events_in t m values))
  finished e =
      let none = events-none t values left e in
      (omega (arith, w.place, ap length none), sym (put-none r end) ∙ rw none at w.bytes)

  -- a turn: source i is written
  module _ (p : 0 < left) {i : ℕ} (lowest : i ≡ lowest_of 64 left) where
    one_more : events_in t left values ≡ event_of t values i ++ events_in t (rest_of left) values
    one_more = rw lowest (events-first t values left p w.fits)

    length-one : length (event_of t values i) ≡ 12
    length-one = length-event t i (int_at values i)

    length-left : length (events_in t left values) ≡ 12 + length (events_in t (rest_of left) values)
    length-left = rw (one_more, length-append, length-one)

    pub room : end + 12 ≤ length r
    room = omega (arith, w.size, w.ready.room, length-left)

    pub source_lt : i < 64
    source_lt = rw lowest (lowest_lt 64 left p w.fits)

    pub value-small : mag (int_at values i) < 2 ^ 31
    value-small =
        let there : has left i ≡ true = rw lowest (has-lowest 64 left p w.fits) in
        omega (arith, size_mag (int_at values i), w.ready.sized i there)

    behind : put_at (put_at r end (event_of t values i)) (end + 12) (events_in t (rest_of left) values) ≡ put_at r end (events_in t left values)
    behind =
        rw (one_more, ← put-append r end (event_of t values i) (omega (arith, room)) (events_in t (rest_of left) values), length-one)

    pub turn : {rest : ℕ} {u : List ℕ} → rest ≡ rest_of left → u ≡ put_at r end (event_of t values i)
        → Writing t values m at s rest (end + 12) u
    turn others now =
        rw (others, now)
        (record {
          fits = omega (arith, rest_lt left p, w.fits);
          size = length-put r end (event_of t values i) (omega (arith, length-one, room)) ∙ w.size;
          ready = record {
            room = omega (arith, w.ready.room, length-left);
            sized = λ k h. w.ready.sized k (rest_within left p w.fits k h);
          };
          place = omega (arith, w.place, length-left);
          bytes = behind ∙ w.bytes;
        })
