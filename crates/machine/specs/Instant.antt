-- Binding definition: "One instant", steps 1 to 6, and its events.
use Rattle.std.specs.Prelude.{Bool, true, cond, ◌⊎◌, List, [], ◌∷◌, ℕ, zero, ◌+◌, ◌-◌, ℤ, pos, ◌+ℤ◌, ◌*ℤ◌}
use Rattle.bitset.specs.Counts.{count_of}
use Rattle.words.specs.Word.{word_of, flat}
use Rattle.plan.specs.Numbers.{most_integrators}
use Rattle.plan.specs.Lists.{nat_at, int_at, row, joined}
use Rattle.plan.specs.declared.Plan.{Plan}
use Rattle.machine.specs.Values.{value_with}
use Rattle.machine.specs.Due.{due_of}
use Rattle.machine.specs.Held.{Held, held_of, running_by, slope_of, held_then, next_tick}
use Rattle.machine.specs.Reach.{is_due, woken, placed, changes_by, touched, Woken, Changed, Reached}
use Rattle.machine.specs.declared.Running.{Running}
use Rattle.machine.specs.declared.Engine.{Engine}
use Rattle.machine.specs.declared.Engine.TheVariants.{Lazy, Eager}

-- x+s×(t−l)
unfoldable pub position_at : Running → ℕ → ℕ → ℤ
position_at r t i = int_at r.x i +ℤ int_at r.s i *ℤ pos (t - nat_at r.l i)

-- 5. "The lazy engine moves those due or reached, the eager engine all"
unfoldable pub moves : (p : Plan) (engine : Engine) (d : List ℕ) (t i : ℕ) → Bool
moves p Lazy d t i = touched p t (is_due d t) i
moves p Eager d t i = true

-- the same in document 01's words
abbrev pub Moves : (p : Plan) (engine : Engine) (d : List ℕ) (t i : ℕ) → Type 0
Moves p Lazy d t i = Woken d t i ⊎ Reached p (Changed p d t) i
Moves p Eager d t i = Unit {0}

-- "Events of an instant: due integrators and commanded inputs by ascending source number, 12 bytes each: tick, source, signed value."
unfoldable pub bytes_of_event : (t source : ℕ) (value : ℤ) → List ℕ
bytes_of_event t source value = flat (t ∷ source ∷ word_of value ∷ [])

-- at tick t, of the sources that change, with the outputs q and input values u after it
unfoldable pub events_at : (p : Plan) (t : ℕ) (changed : ℕ → Bool) (q u : List ℤ) → List ℕ
events_at p t changed q u = joined (λ i. cond (changed i) (bytes_of_event t i (value_with p q u zero i)) []) (p.counts.n + p.counts.m)

-- What an instant makes of a state, whoever moves: what is held after it, and the position and slope of each integrator that moves.
pub record Outcome : Type 0 where
  pub held : Held
  pub x : ℕ → ℤ
  pub s : ℕ → ℤ

-- 1. "The due integrators (d = t) take q = x+s×(t−l)." The others keep theirs. By who is woken, where each integrator is put, and the outputs before
unfoldable pub outputs_by : (p : Plan) (awake : ℕ → Bool) (place : ℕ → ℤ) (q : List ℤ) → List ℤ
outputs_by p awake place q = row (pos 0) most_integrators p.counts.n (λ i. cond (awake i) (place i) (int_at q i))

-- 5. "x becomes x+s×(t−l) .. A due integrator gets x = q." By who is woken, the outputs after, and where each integrator is put
unfoldable pub place_by : (awake : ℕ → Bool) (q : List ℤ) (place : ℕ → ℤ) → ℕ → ℤ
place_by awake q place i = cond (awake i) (int_at q i) (place i)

-- Of the instant at tick t, by who is due there, the position of each integrator there, and what was held before. 3. and 5. The new slope is
-- by what is held after it.
abbrev pub outcome_by : (p : Plan) (t : ℕ) (due : ℕ → Bool) (place : ℕ → ℤ) → Held → Outcome
outcome_by p t due place h =
    let q = outputs_by p (woken due) (placed place) h.q in let then = held_then p t h q in
    record { held = then; x = place_by (woken due) q (placed place); s = slope_of p then }

-- its events, by the same
unfoldable pub outcome_events : (p : Plan) (t : ℕ) (due : ℕ → Bool) (place : ℕ → ℤ) → Held → List ℕ
outcome_events p t due place h =
    let then = (outcome_by p t due place h).held in events_at p t (changes_by p t (woken due)) then.q then.inputs

-- 5. and the new due tick
unfoldable pub due_then : (p : Plan) (t : ℕ) → Outcome → ℕ → ℕ
due_then p t o i = due_of p o.held.q i t (o.x i) (o.s i)

module _ (p : Plan) (r : Running) (t : ℕ) where
  -- The figures after an outcome at tick t: those of the integrators that pass a test are moved, the others keep theirs. `updates` is the count after it
  unfoldable pub figures_after : Outcome → (moved : ℕ → Bool) (updates : ℕ) → Running
  figures_after o moved updates =
      let x = row (pos 0) most_integrators p.counts.n (λ i. cond (moved i) (o.x i) (int_at r.x i)) in
      let s = row (pos 0) most_integrators p.counts.n (λ i. cond (moved i) (o.s i) (int_at r.s i)) in
      let l : List ℕ = row 0 most_integrators p.counts.n (λ i. cond (moved i) t (nat_at r.l i)) in
      let d : List ℕ = row 0 most_integrators p.counts.n (λ i. cond (moved i) (due_then p t o i) (nat_at r.d i)) in
      running_by o.held x s l d t updates

  -- what the instant at tick t makes of these figures
  abbrev pub outcome : Outcome
  outcome = outcome_by p t (is_due r.d t) (position_at r t) (held_of r)

  -- who an engine moves there
  abbrev pub moved_at : Engine → ℕ → Bool
  moved_at engine = moves p engine r.d t

  -- 6. "c = t; instants grows by 1; updates grows by the number of integrators moved, each counted once."
  abbrev pub instant_by : (moved : ℕ → Bool) → Running
  instant_by moved = figures_after outcome moved (r.clocks.updates + count_of moved p.counts.n)

module _ (p : Plan) where
  -- the tick of the next instant
  unfoldable pub next_tick_of : Running → ℕ
  next_tick_of r = next_tick p r.d (held_of r)

  unfoldable pub instant : Engine → Running → Running
  instant engine r = instant_by p r (next_tick_of r) (moved_at p r (next_tick_of r) engine)

  unfoldable pub events_of : Running → List ℕ
  events_of r = let t = next_tick_of r in outcome_events p t (is_due r.d t) (position_at r t) (held_of r)
