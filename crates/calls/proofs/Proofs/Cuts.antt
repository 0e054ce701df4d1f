-- Proof: a list of run calls cut behind an instant, the rest of it, the engine of an instant, and lists made by one engine: each by the
-- list of engines of its instants. Assumes nothing.
use Rattle.std.specs.Prelude.{◌≡◌, Bool, true, false, ℕ, zero, suc, ◌+◌, ◌-◌, ◌≤◌, ◌<◌, leb}
use Rattle.std.proofs.Math.Path.{refl, sym, ap}
use Rattle.std.proofs.Common.{◌∙◌, arith, le_of_suc-le-suc}
use mathlib.Core.List.{List, [], ◌∷◌, ◌++◌, append-nil}
use Rattle.std.proofs.Math.Nat.{suc-sub-suc}
use Rattle.std.proofs.Math.ListN.{length, get_or, take, drop, replicate, length-replicate, get_or-replicate, replicate-append-replicate, get_or-append}
use Rattle.std.proofs.Math.Seq.{take-append-add, drop-append-add, get_or-append-add, take-nil, drop-nil}
use borrow.Author.Tests.{leb-true, leb-false, le-leb, lt-leb}
use Rattle.plan.specs.declared.Plan.{Plan}
use Rattle.machine.proofs.Laws.SoundClauses.{SoundRunning}
use Rattle.machine.proofs.Laws.Instants.{engine_of}
use Rattle.machine.specs.declared.Running.{Running}
use Rattle.machine.specs.declared.Engine.{Engine}
use Rattle.machine.specs.declared.Engine.TheVariants.{Lazy}
use Rattle.calls.specs.Lists.{Call, engine_at, cut_at, rest_at, AllBy, all_by}
use Rattle.calls.proofs.Proofs.Schedule.{at, fed, schedule, schedule_length, fed_less, fed_by, call_after, next, next-sound}

-- ---- b times one engine, then others: cut among the first, or behind them
module _ (engine : Engine) (later : List Engine) where
  take_among : (k b : ℕ) → k ≤ b → take k (replicate b engine ++ later) ≡ replicate k engine
  take_among zero b h = refl
  take_among (suc k) zero h = absurd (omega arith)
  take_among (suc k) (suc b) h = ap (λ es. engine ∷ es) (take_among k b (le_of_suc-le-suc h))

  drop_among : (k b : ℕ) → k ≤ b → drop k (replicate b engine ++ later) ≡ replicate (b - k) engine ++ later
  drop_among zero b h = let all : b - 0 ≡ b = omega arith in rw all
  drop_among (suc k) zero h = absurd (omega arith)
  drop_among (suc k) (suc b) h = rw (suc-sub-suc b k) (drop_among k b (le_of_suc-le-suc h))

  -- an index behind the first b
  behind : {k b : ℕ} → b < k → k ≡ length (replicate b engine) + (k - b)
  behind {k} {b} h = omega (arith, length-replicate b engine)

  take_behind : (k b : ℕ) → b < k → take k (replicate b engine ++ later) ≡ replicate b engine ++ take (k - b) later
  take_behind k b h =
      ap (λ (i : ℕ). take i (replicate b engine ++ later)) (behind h) ∙ take-append-add (replicate b engine) later (k - b)

  drop_behind : (k b : ℕ) → b < k → drop k (replicate b engine ++ later) ≡ drop (k - b) later
  drop_behind k b h =
      ap (λ (i : ℕ). drop i (replicate b engine ++ later)) (behind h) ∙ drop-append-add (replicate b engine) later (k - b)

  -- the engine of instant k, counted from 1
  engine_among : (k b : ℕ) → 1 ≤ k → k ≤ b → engine_of (replicate b engine ++ later) k ≡ engine
  unfolding engine_of
  engine_among k b l h =
      get_or-append (replicate b engine) later Lazy (k - 1) (omega (arith, length-replicate b engine))
      ∙ get_or-replicate b (k - 1) engine Lazy (omega arith)

  engine_behind : (k b : ℕ) → b < k → engine_of (replicate b engine ++ later) k ≡ engine_of later (k - b)
  unfolding engine_of
  engine_behind k b h =
      let e : k - 1 ≡ length (replicate b engine) + (k - b - 1) = omega (arith, length-replicate b engine) in
      ap (λ (i : ℕ). get_or (replicate b engine ++ later) i Lazy) e ∙ get_or-append-add (replicate b engine) later (k - b - 1) Lazy

-- ---- the lists
module _ (p : Plan) where
  -- instant i is of the first call, or of a later one
  by_call : (P : List Call → Running → ℕ → Type 0) → ((r : Running) (i : ℕ) → P [] r i)
      → ((c : Call) (calls : List Call) (r : Running) → SoundRunning p r → (i : ℕ) → i ≤ fed p c → P (c ∷ calls) r i)
      → ((c : Call) (calls : List Call) (r : Running) (ok : SoundRunning p r) (i : ℕ) → fed p c < i → P calls (next p r c ok) (i - fed p c)
      → P (c ∷ calls) r i)
      → (calls : List Call) (r : Running) → SoundRunning p r → (i : ℕ) → P calls r i
  by_call P none first later [] r ok i = none r i
  by_call P none first later (c ∷ calls) r ok i =
      go (leb i (fed p c)) refl (by_call P none first later calls (next p r c ok) (next-sound p r c ok) (i - fed p c))
    where
      go : (b : Bool) → leb i (fed p c) ≡ b → P calls (next p r c ok) (i - fed p c) → P (c ∷ calls) r i
      go true e ih = first c calls r ok i (leb-true i (fed p c) e)
      go false e ih = later c calls r ok i (leb-false i (fed p c) e) ih

  pub schedule_cut : (calls : List Call) (r : Running) → SoundRunning p r → (i : ℕ)
      → schedule p (cut_at (at p r) calls i) ≡ take i (schedule p calls)
  unfolding schedule cut_at
  schedule_cut =
      by_call (λ calls r i. schedule p (cut_at (at p r) calls i) ≡ take i (schedule p calls))
      (λ r i. sym (take-nil i))
      (λ c calls r ok i h.
      rw (fed_by p r c ok, le-leb i (fed p c) h, fed_less p c i h, append-nil (replicate i c.engine))
      (sym (take_among c.engine (schedule p calls) i (fed p c) h)))
      (λ c calls r ok i h ih.
      rw (fed_by p r c ok, lt-leb i (fed p c) h, call_after p r c ok, ih) (sym (take_behind c.engine (schedule p calls) i (fed p c) h)))

  pub schedule_rest : (calls : List Call) (r : Running) → SoundRunning p r → (i : ℕ)
      → schedule p (rest_at (at p r) calls i) ≡ drop i (schedule p calls)
  unfolding schedule rest_at
  schedule_rest =
      by_call (λ calls r i. schedule p (rest_at (at p r) calls i) ≡ drop i (schedule p calls))
      (λ r i. sym (drop-nil i))
      (λ c calls r ok i h.
      rw (fed_by p r c ok, le-leb i (fed p c) h, fed_less p c (fed p c - i) (omega arith))
      (sym (drop_among c.engine (schedule p calls) i (fed p c) h)))
      (λ c calls r ok i h ih.
      rw (fed_by p r c ok, lt-leb i (fed p c) h, call_after p r c ok, ih) (sym (drop_behind c.engine (schedule p calls) i (fed p c) h)))

  pub engine_at_lem : (calls : List Call) (r : Running) → SoundRunning p r → (i : ℕ) → 1 ≤ i
      → engine_at (at p r) calls i ≡ engine_of (schedule p calls) i
  unfolding schedule engine_at engine_of
  engine_at_lem =
      by_call (λ calls r i. 1 ≤ i → engine_at (at p r) calls i ≡ engine_of (schedule p calls) i)
      (λ r i l. refl)
      (λ c calls r ok i h l.
      rw (fed_by p r c ok, le-leb i (fed p c) h) (sym (engine_among c.engine (schedule p calls) i (fed p c) l h)))
      (λ c calls r ok i h ih l.
      rw (fed_by p r c ok, lt-leb i (fed p c) h, call_after p r c ok)
      (ih (omega arith) ∙ sym (engine_behind c.engine (schedule p calls) i (fed p c) h)))

  -- a list by one engine, and the same list made so, which feeds as much
  pub schedule_by : (engine : Engine) (calls : List Call) → AllBy engine calls → schedule p calls ≡ replicate (length (schedule p calls)) engine
  unfolding schedule fed
  schedule_by engine [] all = refl
  schedule_by engine (c ∷ calls) all =
      rw (schedule_length p c calls, all.0)
      (ap (λ es. replicate (fed p c) engine ++ es) (schedule_by engine calls all.1)
      ∙ replicate-append-replicate (fed p c) (length (schedule p calls)) engine)

  pub length-all : (engine : Engine) (calls : List Call) → length (schedule p (all_by engine calls)) ≡ length (schedule p calls)
  unfolding schedule all_by fed
  length-all engine [] = refl
  length-all engine (c ∷ calls) =
      let made : Call = record { engine = engine; budget = c.budget; buffer = c.buffer } in
      schedule_length p made (all_by engine calls) ∙ rw (length-all engine calls) (sym (schedule_length p c calls))

pub all_by_lem : (engine : Engine) (calls : List Call) → AllBy engine (all_by engine calls)
unfolding all_by
all_by_lem engine [] = tt
all_by_lem engine (c ∷ calls) = (refl, all_by_lem engine calls)
