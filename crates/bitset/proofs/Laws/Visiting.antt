-- Laws: visiting by lowest and rest. The lowest of a mask is in it and none below it is, the rest has all but the lowest, and so a loop that
-- takes the lowest each time is the loop with a test over all numbers below the width. Assumes nothing.
use Rattle.std.specs.Prelude.{◌≡◌, Some, None, Bool, cond, ◌&&◌, not, ltb, eqb}
use Rattle.std.proofs.Math.Path.{refl, ap}
use Rattle.std.proofs.Common.{sym, ◌∙◌, true≢false, zero-add, eq-or-lt_of_le, le_of_suc-le-suc, not-suc-le-zero, add-suc, pow-suc, lt_of_lt_of_le, arith, pow_mono, ltb-true, ltb-false, eq-eqb, ne_eqb}
use Rattle.std.proofs.Math.Bool.{true, false, and-true, and-false}
use Rattle.std.proofs.Math.Logic.{⊎_elim}
use Rattle.std.proofs.lemmas.Bool.{and_parts}
use Prim.Native.Nat.{ℕ, zero, suc, ◌+◌, ◌-◌, ◌*◌, ◌/◌, ◌%◌, ◌^◌, ◌≤◌, ◌<◌}
use Rattle.std.proofs.Math.Nat.{add-zero, min-zero, zero-min}
use Rattle.std.proofs.Math.Dec.{eqb-suc-zero, eqb-suc-suc}
use Rattle.std.specs.Int.Bits.{and_step, and_self}
use Rattle.std.proofs.lemmas.Nat.{and_le_r, trailing_le}
use Rattle.std.specs.Int.Count.{count_trailing_zeros}
use Rattle.bitset.specs.Mask.{has, mask_of, each, lowest_of, rest_of, TakesLowest}
use Rattle.bitset.proofs.Laws.Bits.{parity, has-none, has_zero, has_suc, has-high, has-mask_of, mask_of_lt}

-- ---- by the lowest digit

lowest_odd : (w m : ℕ) → m % 2 ≡ 1 → lowest_of (suc w) m ≡ 0
unfolding count_trailing_zeros
lowest_odd w m e = rw e

lowest_even : (w m : ℕ) → m % 2 ≡ 0 → lowest_of (suc w) m ≡ suc (lowest_of w (m / 2))
unfolding count_trailing_zeros
lowest_even w m e = rw e

rest_odd : (m : ℕ) → m % 2 ≡ 1 → rest_of m ≡ m / 2 * 2
rest_odd m e =
    let half : (m - 1) / 2 ≡ m / 2 = omega arith in
    let digit : (m - 1) % 2 ≡ 0 = omega arith in
    and_step m (m - 1) ∙ rw (half, digit, and_self, min-zero) (add-zero (m / 2 * 2))

rest_even : (m : ℕ) → m % 2 ≡ 0 → 0 < m → rest_of m ≡ rest_of (m / 2) * 2
rest_even m e p =
    let half : (m - 1) / 2 ≡ m / 2 - 1 = omega arith in
    and_step m (m - 1) ∙ rw (half, e, zero-min) (add-zero (rest_of (m / 2) * 2))

-- ---- the lowest and the rest

pub rest_lt : (m : ℕ) → 0 < m → rest_of m < m
rest_lt m p = omega (arith, and_le_r m (m - 1))

pub lowest_lt : (w m : ℕ) → 0 < m → m < 2 ^ w → lowest_of w m < w
lowest_lt zero m p h = omega arith
lowest_lt (suc w) m p h =
    let b : m < 2 ^ w * 2 = rw pow-suc at h in
    ⊎_elim (λ (e : m % 2 ≡ 0). omega (arith, lowest_even w m e, lowest_lt w (m / 2) (omega arith) (omega arith)))
    (λ (e : m % 2 ≡ 1). omega (arith, lowest_odd w m e)) (parity m)

pub has-lowest : (w m : ℕ) → 0 < m → m < 2 ^ w → has m (lowest_of w m) ≡ true
has-lowest zero m p h = absurd (omega arith)
has-lowest (suc w) m p h =
    let b : m < 2 ^ w * 2 = rw pow-suc at h in
    ⊎_elim (λ (e : m % 2 ≡ 0). rw (lowest_even w m e) (has_suc m (lowest_of w (m / 2)) ∙ has-lowest w (m / 2) (omega arith) (omega arith)))
    (λ (e : m % 2 ≡ 1). rw (lowest_odd w m e) (has_zero m ∙ rw e)) (parity m)

-- the lowest of a mask of k bits is below k, at any width that holds it
pub lowest-below : (w k m : ℕ) → 0 < m → m < 2 ^ k → k ≤ w → lowest_of w m < k
lowest-below w k m p h l = go (ltb (lowest_of w m) k) refl
  where
    go : (b : Bool) → ltb (lowest_of w m) k ≡ b → lowest_of w m < k
    go true e = ltb-true (lowest_of w m) k e
    go false e =
        absurd
        (true≢false (sym (has-lowest w m p (lt_of_lt_of_le h (pow_mono l))) ∙ has-high m k (lowest_of w m) h (ltb-false (lowest_of w m) k e)))

pub below-lowest : (w m i : ℕ) → i < lowest_of w m → has m i ≡ false
below-lowest zero m i l = absurd (omega (arith, trailing_le 0 m))
below-lowest (suc w) m zero l =
    ⊎_elim (λ (e : m % 2 ≡ 0). has_zero m ∙ rw e) (λ (e : m % 2 ≡ 1). absurd (omega (arith, lowest_odd w m e))) (parity m)
below-lowest (suc w) m (suc i) l =
    ⊎_elim (λ (e : m % 2 ≡ 0). has_suc m i ∙ below-lowest w (m / 2) i (omega (arith, lowest_even w m e)))
    (λ (e : m % 2 ≡ 1). absurd (omega (arith, lowest_odd w m e))) (parity m)

pub has_rest : (w m i : ℕ) → 0 < m → m < 2 ^ w → has (rest_of m) i ≡ (has m i && not (eqb i (lowest_of w m)))
has_rest zero m i p h = absurd (omega arith)
has_rest (suc w) m zero p h =
    ⊎_elim
    (λ (e : m % 2 ≡ 0). let low : rest_of m % 2 ≡ 0 = omega (arith, rest_even m e p) in rw (has_zero (rest_of m), has_zero m, low, e))
    (λ (e : m % 2 ≡ 1).
    let low : rest_of m % 2 ≡ 0 = omega (arith, rest_odd m e) in rw (has_zero (rest_of m), has_zero m, low, e, lowest_odd w m e)) (parity m)
has_rest (suc w) m (suc i) p h =
    let b : m < 2 ^ w * 2 = rw pow-suc at h in
    ⊎_elim
    (λ (e : m % 2 ≡ 0).
    let half : rest_of m / 2 ≡ rest_of (m / 2) = omega (arith, rest_even m e p) in
    rw (has_suc (rest_of m), has_suc m, half, lowest_even w m e, eqb-suc-suc) (has_rest w (m / 2) i (omega arith) (omega arith)))
    (λ (e : m % 2 ≡ 1).
    let half : rest_of m / 2 ≡ m / 2 = omega (arith, rest_odd m e) in
    rw (has_suc (rest_of m), has_suc m, half, lowest_odd w m e, eqb-suc-zero) (sym (and-true (has (m / 2) i)))) (parity m)

-- ---- the loop with a test
module _ {S : Type 0} (f : ℕ → S → S) where
  -- it goes by what its test says below its end
  pub each_ext : (p q : ℕ → Bool) (n : ℕ) (s : S) → ((i : ℕ) → i < n → p i ≡ q i) → each f p n s ≡ each f q n s
  unfolding each
  each_ext p q zero s e = refl
  each_ext p q (suc n) s e =
      let here : p n ≡ q n = e n (omega arith) in
      let below : (t : S) → each f p n t ≡ each f q n t = λ t. each_ext p q n t (λ i l. e i (omega arith)) in
      simp (here, below)

  -- from n on nothing is visited
  pub each_cut : (p : ℕ → Bool) (n d : ℕ) (s : S) → ((i : ℕ) → n ≤ i → i < n + d → p i ≡ false) → each f p (n + d) s ≡ each f p n s
  unfolding each
  each_cut p n zero s e = rw add-zero
  each_cut p n (suc d) s e =
      let here : p (n + d) ≡ false = e (n + d) (omega arith) (omega arith) in
      rw (add-suc, here) (each_cut p n d s (λ i l h. e i l (omega arith)))

  -- nothing is visited at all
  pub each_clear : (p : ℕ → Bool) (n : ℕ) (s : S) → ((i : ℕ) → i < n → p i ≡ false) → each f p n s ≡ s
  unfolding each
  each_clear p n s e = ap (λ (x : ℕ). each f p x s) (sym (zero-add n)) ∙ each_cut p 0 n s (λ i l h. e i (omega arith))

  -- the first visit, i, and then the others
  pub each_first : (p q : ℕ → Bool) (i n : ℕ) (s : S) → i < n → p i ≡ true → ((k : ℕ) → k < i → p k ≡ false)
      → ((k : ℕ) → q k ≡ (p k && not (eqb k i))) → each f p n s ≡ each f q n (f i s)
  unfolding each
  each_first p q i zero s l h none left = absurd (not-suc-le-zero l)
  each_first p q i (suc n) s l h none left =
      ⊎_elim
      (λ (e : i ≡ n).
      let here : p n ≡ true = rw e at h in
      let there : q n ≡ false = left n ∙ rw (eq-eqb n i (sym e)) (and-false (p n)) in
      let before : (t : S) → each f p n t ≡ t = λ t. each_clear p n t (λ k b. none k (omega arith)) in
      let after : (t : S) → each f q n t ≡ t = λ t. each_clear q n t (λ k b. left k ∙ rw (none k (omega arith))) in
      simp (here, there, before, after, e))
      (λ (b : i < n).
      let here : q n ≡ p n = left n ∙ rw (ne_eqb n i (λ (e : n ≡ i). omega arith)) (and-true (p n)) in
      rw (here, each_first p q i n s b h none left)) (eq-or-lt_of_le (le_of_suc-le-suc l))

  -- what holds at the start and is kept by each visit holds at the end
  pub each_ind : (P : S → Type 0) (p : ℕ → Bool) (n : ℕ) (s : S) → ((i : ℕ) (t : S) → i < n → p i ≡ true → P t → P (f i t)) → P s
      → P (each f p n s)
  unfolding each
  each_ind P p zero s step base = base
  each_ind P p (suc n) s step base = go (p n) refl (each_ind P p n s (λ i t l. step i t (omega arith)) base)
    where
      go : (b : Bool) → p n ≡ b → P (each f p n s) → P (cond b (f n (each f p n s)) (each f p n s))
      go true e h = step n (each f p n s) (omega arith) e h
      go false e h = h

  -- over a mask, a turn: the lowest is visited, and then the rest
  pub each_step : (w m : ℕ) (s : S) → 0 < m → m < 2 ^ w → each f (has m) w s ≡ each f (has (rest_of m)) w (f (lowest_of w m) s)
  each_step w m s p h =
      each_first (has m) (has (rest_of m)) (lowest_of w m) w s (lowest_lt w m p h) (has-lowest w m p h) (below-lowest w m)
      (λ k. has_rest w m k p h)

  -- the same for a loop whose invariant is that what is left ends at `end`; i and r are what `lowest` and `rest` answer
  pub each_turn : (w m i r : ℕ) (s end : S) → 0 < m → m < 2 ^ w → i ≡ lowest_of w m → r ≡ rest_of m → each f (has m) w s ≡ end
      → each f (has r) w (f i s) ≡ end
  each_turn w m i r s end p h ei er e = rw (ei, er) (sym (each_step w m s p h) ∙ e)

  -- nothing is left
  pub each_done : (w m : ℕ) (s end : S) → m ≡ 0 → each f (has m) w s ≡ end → s ≡ end
  each_done w m s end z e = sym (each_clear (has m) w s (λ i l. rw z (has-none i))) ∙ e

  -- a mask that a test made, visited at any width that holds it: the loop by the test itself
  pub each_mask : (p : ℕ → Bool) (n w : ℕ) (s : S) → n ≤ w → each f (has (mask_of p n)) w s ≡ each f p n s
  each_mask p n w s l =
      let e : w ≡ n + (w - n) = omega arith in
      ap (λ (x : ℕ). each f (has (mask_of p n)) x s) e
      ∙ each_cut (has (mask_of p n)) n (w - n) s (λ i b h. has-high (mask_of p n) n i (mask_of_lt p n) b)
      ∙ each_ext (has (mask_of p n)) p n s (has-mask_of p n)

-- ---- a walk by `Members`
module _ {S : Type 0} (f : ℕ → S → S) (w m : ℕ) (s : S) where
  -- of a walk that began at m with s, `left` is left, and it stands at t: those left are in m, and visiting them ends where visiting all of m ends
  pub record Walking (left : ℕ) (t : S) : Type 0 where
    pub fits : left < 2 ^ w
    pub within : (i : ℕ) → has left i ≡ true → has m i ≡ true
    pub ends : each f (has left) w t ≡ each f (has m) w s

  -- the member that a turn takes
  pub walk_member : {left i after : ℕ} {t : S} → Walking left t → TakesLowest w left (Some i) after → (i < w) × (has m i ≡ true)
  walk_member {left} k (p, e, _) =
      rw e (lowest_lt w left p k.fits, k.within (lowest_of w left) (has-lowest w left p k.fits))

  pub walk_turn : {left i after : ℕ} {t : S} → Walking left t → TakesLowest w left (Some i) after → Walking after (f i t)
  walk_turn {left} {i} {after} {t} k (p, e, r) =
      rw r (record {
        fits = omega (arith, rest_lt left p, k.fits);
        within = λ j h. k.within j (and_parts _ _ (rw (has_rest w left j p k.fits) at h)).0;
        ends = each_turn f w left i (rest_of left) t _ p k.fits e refl k.ends;
      })

  -- nothing is left
  pub walk_done : {left after : ℕ} {t : S} → Walking left t → TakesLowest w left None after → t ≡ each f (has m) w s
  walk_done {left} {t = t} k (z, _) = each_done f w left t _ z k.ends
