-- Laws: the due tick over levels given as two numbers: it is the least tick of document 01, it lies ahead, and it stays while an integrator
-- is left alone, which till then stays strictly between its levels. Assumes nothing.
use Rattle.std.specs.Prelude.{◌≡◌, refl, Bool, true, false, cond, ℤ, pos, negsuc, ◌+ℤ◌, ◌-ℤ◌, ◌*ℤ◌, ◌≤ℤ◌, ◌<ℤ◌, eqb}
use Rattle.std.proofs.Common.{sym, ap, ◌∙◌, mul-le-mul_left, zero-mul, le_antisymm, eqb-true, ne_eqb}
use Prim.Native.Nat.{ℕ, zero, suc, ◌+◌, ◌-◌, ◌*◌, ◌≤◌, ◌<◌, max}
use native.Mathlib.Omega.{arith}
use Rattle.std.specs.Int.Signed.{lt_z}
use Rattle.std.proofs.lemmas.Bool.{eqb-false}
use Rattle.integers.specs.Parts.{positive_part, ∣◌∣}
use Rattle.integers.proofs.Laws.Parts.{sum, dif, prod, tight, zs}
use Rattle.integers.specs.Division.{ceil_div, Ceil}
use Rattle.integers.proofs.Laws.Division.{ceil, ceil_least, ceil_one}
use Rattle.plan.specs.Numbers.{never}
use Rattle.machine.specs.Due.{distance, ticks_to, due_tick, AtLevel, LeastTicks}

-- ---- the slope is 0, or it is not
pub moving : (s : ℤ) → (s ≡ pos 0 → ⊥) → 0 < ∣ s ∣
moving (pos zero) h = absurd (h refl)
moving (pos (suc n)) h = omega arith
moving (negsuc n) h = omega arith

pub due-still : (l : ℕ) (x upper lower s : ℤ) → s ≡ pos 0 → due_tick l x upper lower s ≡ never
unfolding due_tick
due-still l x upper lower s e = rw e

pub due-moving : (l : ℕ) (x upper lower s : ℤ) → (s ≡ pos 0 → ⊥) → due_tick l x upper lower s ≡ l + ticks_to x upper lower s
unfolding due_tick
due-moving l x upper lower s h = rw (ne_eqb ∣ s ∣ 0 (omega (arith, moving s h)))

-- what holds of both cases holds
pub slope_cases : (s : ℤ) (P : Type 0) → (s ≡ pos 0 → P) → ((s ≡ pos 0 → ⊥) → P) → P
slope_cases s P still moves = go (eqb ∣ s ∣ 0) refl
  where
    go : (b : Bool) → eqb ∣ s ∣ 0 ≡ b → P
    go true e = still (omega (arith, zs, eqb-true ∣ s ∣ 0 e))
    go false e = moves (λ z. eqb-false ∣ s ∣ 0 e (ap (λ z. ∣ z ∣) z))

-- ---- the distance
-- the test for a slope above 0
upward : (n : ℕ) → lt_z (pos 0) (pos (suc n)) ≡ true
upward n = omega (arith, zs)

-- t ticks take t times the slope's size off it
distance-moved : (x upper lower s : ℤ) (t : ℕ) → distance (x +ℤ s *ℤ pos t) upper lower s ≡ distance x upper lower s -ℤ pos (∣ s ∣ * t)
unfolding distance
distance-moved x upper lower (pos zero) t =
    let y = x +ℤ pos 0 *ℤ pos t in
    omega (arith, zs, prod (pos 0) (pos t), sum x (pos 0 *ℤ pos t), dif y lower, dif x lower, dif (x -ℤ lower) (pos (0 * t)))
distance-moved x upper lower (pos (suc n)) t =
    let s = pos (suc n) in let y = x +ℤ s *ℤ pos t in
    rw (upward n) (omega (arith, zs, prod s (pos t), sum x (s *ℤ pos t), dif upper y, dif upper x, dif (upper -ℤ x) (pos (∣ s ∣ * t))))
distance-moved x upper lower (negsuc n) t =
    let s = negsuc n in let y = x +ℤ s *ℤ pos t in
    omega (arith, zs, prod s (pos t), sum x (s *ℤ pos t), dif y lower, dif x lower, dif (x -ℤ lower) (pos (∣ s ∣ * t)))

-- a position is past the level ahead where its distance is not above 0
at_level : (x upper lower s : ℤ) (t : ℕ) → distance (x +ℤ s *ℤ pos t) upper lower s ≤ℤ pos 0 → AtLevel x upper lower s t
unfolding distance
at_level x upper lower (pos zero) t h = record { rising = λ p. absurd (omega (arith, zs)); falling = λ p. absurd (omega (arith, zs)) }
at_level x upper lower (pos (suc n)) t h =
    let y = x +ℤ pos (suc n) *ℤ pos t in let d = rw (upward n) at h in
    record { rising = λ p. omega (arith, zs, dif upper y); falling = λ p. absurd (omega (arith, zs)) }
at_level x upper lower (negsuc n) t h =
    let y = x +ℤ negsuc n *ℤ pos t in
    record { rising = λ p. absurd (omega (arith, zs)); falling = λ p. omega (arith, zs, dif y lower) }

level_at : (x upper lower s : ℤ) (t : ℕ) → (s ≡ pos 0 → ⊥) → AtLevel x upper lower s t → distance (x +ℤ s *ℤ pos t) upper lower s ≤ℤ pos 0
unfolding distance
level_at x upper lower (pos zero) t h a = absurd (h refl)
level_at x upper lower (pos (suc n)) t h a =
    let y = x +ℤ pos (suc n) *ℤ pos t in let r = a.rising (omega (arith, zs)) in rw (upward n) (omega (arith, zs, dif upper y))
level_at x upper lower (negsuc n) t h a =
    let y = x +ℤ negsuc n *ℤ pos t in let f = a.falling (omega (arith, zs)) in omega (arith, zs, dif y lower)

-- which is where t times the slope's size covers the first distance
covered : (x upper lower s : ℤ) (t : ℕ) → positive_part (distance x upper lower s) ≤ ∣ s ∣ * t → distance (x +ℤ s *ℤ pos t) upper lower s ≤ℤ pos 0
covered x upper lower s t h =
    let d = distance x upper lower s in rw (distance-moved x upper lower s t) (omega (arith, zs, dif d (pos (∣ s ∣ * t))))

covers : (x upper lower s : ℤ) (t : ℕ) → distance (x +ℤ s *ℤ pos t) upper lower s ≤ℤ pos 0 → positive_part (distance x upper lower s) ≤ ∣ s ∣ * t
covers x upper lower s t h =
    let d = distance x upper lower s in let e = rw (distance-moved x upper lower s t) at h in
    omega (arith, zs, tight d, dif d (pos (∣ s ∣ * t)))

-- ---- the ticks to the level ahead
pub ticks-least : (x upper lower s : ℤ) → (s ≡ pos 0 → ⊥) → LeastTicks x upper lower s (ticks_to x upper lower s)
unfolding ticks_to
ticks-least x upper lower s h = go (ceil_div d ∣ s ∣) (ceil d ∣ s ∣ (moving s h))
  where
    d : ℕ
    d = positive_part (distance x upper lower s)

    go : (r : ℕ) → Ceil d ∣ s ∣ r → LeastTicks x upper lower s (max 1 r)
    go r c =
        let T = max 1 r in let most : r ≤ T = omega arith in
        record {
          positive = omega arith;
          there = at_level x upper lower s T (covered x upper lower s T (omega (arith, mul-le-mul_left ∣ s ∣ most)));
          least = λ T' k a. omega (arith, ceil_least T' c (covers x upper lower s T' (level_at x upper lower s T' h a)));
        }

pub due_ahead_lem : (l : ℕ) (x upper lower s : ℤ) → l < never → l < due_tick l x upper lower s
due_ahead_lem l x upper lower s h =
    slope_cases s (l < due_tick l x upper lower s)
    (λ e. rw (due-still l x upper lower s e) h)
    (λ m. rw (due-moving l x upper lower s m) (omega (arith, (ticks-least x upper lower s m).positive)))

-- of a due tick that is still ahead
ticks-left : (l t : ℕ) (x upper lower s : ℤ) → l ≤ t → t < due_tick l x upper lower s → (s ≡ pos 0 → ⊥) → t - l < ticks_to x upper lower s
ticks-left l t x upper lower s since early m = let e = rw (due-moving l x upper lower s m) at early in omega arith

-- ---- strictly between the levels
pub distance-positive : (x upper lower s : ℤ) → lower <ℤ x → x <ℤ upper → pos 0 <ℤ distance x upper lower s
unfolding distance
distance-positive x upper lower s above below = go (lt_z (pos 0) s)
  where
    go : (b : Bool) → pos 0 <ℤ cond b (upper -ℤ x) (x -ℤ lower)
    go true = omega (arith, zs, dif upper x)
    go false = omega (arith, zs, dif x lower)

-- a move that does not cover the distance stays between them
between : (x upper lower s : ℤ) (t : ℕ) → lower <ℤ x → x <ℤ upper → ∣ s ∣ * t < positive_part (distance x upper lower s)
    → (lower <ℤ (x +ℤ s *ℤ pos t)) × ((x +ℤ s *ℤ pos t) <ℤ upper)
unfolding distance
between x upper lower (pos zero) t above below h = omega (arith, zs, prod (pos 0) (pos t), sum x (pos 0 *ℤ pos t))
between x upper lower (pos (suc n)) t above below h =
    let s = pos (suc n) in let d = rw (upward n) at h in omega (arith, zs, prod s (pos t), sum x (s *ℤ pos t), dif upper x, tight (upper -ℤ x))
between x upper lower (negsuc n) t above below h =
    let s = negsuc n in omega (arith, zs, prod s (pos t), sum x (s *ℤ pos t), dif x lower, tight (x -ℤ lower))

module _ (x upper lower s : ℤ) (above : lower <ℤ x) (below : x <ℤ upper) (moves : s ≡ pos 0 → ⊥) where
  pub ticks-rounded : Ceil (positive_part (distance x upper lower s)) ∣ s ∣ (ticks_to x upper lower s)
  unfolding ticks_to
  ticks-rounded =
      let d = positive_part (distance x upper lower s) in let b = moving s moves in
      rw (one_or_more (ceil_one d ∣ s ∣ b (omega (arith, zs, distance-positive x upper lower s above below)))) (ceil d ∣ s ∣ b)
    where
      one_or_more : {r : ℕ} → 1 ≤ r → max 1 r ≡ r
      one_or_more h = omega arith

  module _ (t : ℕ) (early : t < ticks_to x upper lower s) where
    not_covered : ∣ s ∣ * t < positive_part (distance x upper lower s)
    not_covered = let c = ticks-rounded in omega (arith, mul-le-mul_left ∣ s ∣ early)

    pub stays_above : lower <ℤ (x +ℤ s *ℤ pos t)
    stays_above = (between x upper lower s t above below not_covered).0

    pub stays_below : (x +ℤ s *ℤ pos t) <ℤ upper
    stays_below = (between x upper lower s t above below not_covered).1

pub countdown : (x upper lower s : ℤ) → lower <ℤ x → x <ℤ upper → (s ≡ pos 0 → ⊥) → (t : ℕ) → t < ticks_to x upper lower s
    → ticks_to x upper lower s ≡ ticks_to (x +ℤ s *ℤ pos t) upper lower s + t
countdown x upper lower s a b m t early =
    let y = x +ℤ s *ℤ pos t in let d = distance x upper lower s in
    let c = ticks-rounded y upper lower s (stays_above x upper lower s a b m t early) (stays_below x upper lower s a b m t early) m in
    same (ticks-rounded x upper lower s a b m) c
    (rw (distance-moved x upper lower s t)
    (omega (arith, zs, dif d (pos (∣ s ∣ * t)), tight d, tight (d -ℤ pos (∣ s ∣ * t)), not_covered x upper lower s a b m t early)))
  where
    same : {e f k T T' : ℕ} → Ceil e k T → Ceil f k T' → f + k * t ≡ e → T ≡ T' + t
    same {e} {f} {k} {T} {T'} c c' h =
        let later : Ceil e k (T' + t) = omega arith in le_antisymm (ceil_least (T' + t) c later.enough) (ceil_least T later c.enough)

-- ---- over due ticks, for every slope
module _ (l t : ℕ) (x upper lower s : ℤ) (above : lower <ℤ x) (below : x <ℤ upper) (since : l ≤ t) (early : t < due_tick l x upper lower s) where
  -- the move from l to t does not cover the distance
  not_yet : ∣ s ∣ * (t - l) < positive_part (distance x upper lower s)
  not_yet =
      slope_cases s (∣ s ∣ * (t - l) < positive_part (distance x upper lower s))
      (λ e. rw e (omega (arith, zs, zero-mul (t - l), distance-positive x upper lower (pos 0) above below)))
      (λ m. not_covered x upper lower s above below m (t - l) (ticks-left l t x upper lower s since early m))

  pub later-above : lower <ℤ (x +ℤ s *ℤ pos (t - l))
  later-above = (between x upper lower s (t - l) above below not_yet).0

  pub later-below : (x +ℤ s *ℤ pos (t - l)) <ℤ upper
  later-below = (between x upper lower s (t - l) above below not_yet).1

  pub due-later : due_tick t (x +ℤ s *ℤ pos (t - l)) upper lower s ≡ due_tick l x upper lower s
  due-later =
      slope_cases s (due_tick t (x +ℤ s *ℤ pos (t - l)) upper lower s ≡ due_tick l x upper lower s)
      (λ e. due-still t (x +ℤ s *ℤ pos (t - l)) upper lower s e ∙ sym (due-still l x upper lower s e))
      (λ m. rw (due-moving t (x +ℤ s *ℤ pos (t - l)) upper lower s m, due-moving l x upper lower s m)
      (omega (arith, countdown x upper lower s above below m (t - l) (ticks-left l t x upper lower s since early m))))
