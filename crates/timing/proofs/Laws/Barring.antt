-- Laws: the search for the lowest integrator that bars an instant, by the lowest and the rest of the mask of the due ones. Assumes nothing.
use Rattle.std.specs.Prelude.{◌≡◌, Bool, ◌&&◌, List, ℕ, ◌-◌, ◌^◌, ◌≤◌, ◌<◌, ℤ, pos, neg_ℤ, ◌+ℤ◌, ◌*ℤ◌}
use Rattle.std.proofs.Math.Path.{refl}
use Rattle.std.proofs.Common.{sym, ◌∙◌, arith, lt_of_lt_of_le, pow_mono, eqb-true}
use Rattle.std.proofs.Math.Bool.{true, false, not, and-eq-true_iff}
use Rattle.std.specs.Int.Signed.{lt_z}
use Rattle.std.proofs.Math.Dec.{eqb}
use Rattle.integers.proofs.Laws.Parts.{neg, tight, zs}
use Rattle.integers.specs.Range.{within}
use Rattle.integers.proofs.Laws.Range.{within_true, within_false}
use Rattle.bitset.specs.Mask.{has, lowest_of, rest_of}
use Rattle.bitset.proofs.Laws.Bits.{has-none}
use Rattle.bitset.proofs.Laws.Visiting.{lowest-below, has-lowest, below-lowest, has_rest}
use Rattle.plan.specs.Numbers.{M}
use Rattle.plan.specs.Lists.{nat_at, int_at, first_from}
use Rattle.plan.proofs.Laws.Searches.{first_unique, first_ext}
use Rattle.timing.specs.Ticks.{PositionReady}
use Rattle.timing.specs.Status.{bars_in, DuePositionsReady}

-- the value that integrator i would take at t
abbrev pub value_at : (t : ℕ) (x s : List ℤ) (l : List ℕ) (i : ℕ) → ℤ
value_at t x s l i = int_at x i +ℤ int_at s i *ℤ pos (t - nat_at l i)

-- ---- the two comparisons with ±M
pub above_most : (v : ℤ) → lt_z (pos M) v ≡ true → within M v ≡ false
above_most v e = (within_false M v).1 (omega (arith, zs))

pub below-least : (v : ℤ) → lt_z v (neg_ℤ (pos M)) ≡ true → within M v ≡ false
below-least v e = (within_false M v).1 (omega (arith, zs, neg (pos M)))

pub inside : (v : ℤ) → lt_z (pos M) v ≡ false → lt_z v (neg_ℤ (pos M)) ≡ false → within M v ≡ true
inside v e f = (within_true M v).1 (omega (arith, zs, neg (pos M), tight v))

-- ---- the lowest of those left, of a plan with n integrators
module _ {n left : ℕ} (some : 0 < left) (below : left < 2 ^ n) (few : n ≤ 32) where
  wide : left < 2 ^ 32
  wide = lt_of_lt_of_le below (pow_mono few)

  module _ (t : ℕ) (x s : List ℤ) (l : List ℕ) where
    -- it bars the instant
    pub bars-lowest : within M (value_at t x s l (lowest_of 32 left)) ≡ false → lowest_of 32 left ≡ first_from (bars_in t left x s l) 0 n
    unfolding bars_in
    bars-lowest e =
        first_unique _ 0 n (lowest_of 32 left)
        (record {
          from = omega arith;
          most = omega (arith, lowest-below 32 n left some below few);
          earlier = λ i h k. rw (below-lowest 32 left i k);
          passes = λ h. rw (has-lowest 32 left some wide, e);
        })

    -- it does not, and so the rest is looked at
    pub bars_rest : within M (value_at t x s l (lowest_of 32 left)) ≡ true
        → first_from (bars_in t (rest_of left) x s l) 0 n ≡ first_from (bars_in t left x s l) 0 n
    unfolding bars_in
    bars_rest e = first_ext _ _ 0 n (λ i h. rw (has_rest 32 left i some wide) (go i (eqb i (lowest_of 32 left)) refl (has left i)))
      where
        go : (i : ℕ) (b : Bool) → eqb i (lowest_of 32 left) ≡ b → (a : Bool)
            → ((a && not b) && not (within M (value_at t x s l i))) ≡ (a && not (within M (value_at t x s l i)))
        go i b d false = refl
        go i true d true = rw (eqb-true i (lowest_of 32 left) d, e)
        go i false d true = refl

    pub ready-lowest : DuePositionsReady t left x s l → PositionReady (int_at x (lowest_of 32 left)) (int_at s (lowest_of 32 left)) (nat_at l (lowest_of 32 left)) t
    ready-lowest r = r.ready (lowest_of 32 left) (has-lowest 32 left some wide)

    pub ready_rest : DuePositionsReady t left x s l → DuePositionsReady t (rest_of left) x s l
    ready_rest r = record { ready = λ i e. r.ready i ((and-eq-true_iff (has left i) _).0 (sym (has_rest 32 left i some wide) ∙ e)).0 }

-- none is left
pub bars-none : (n t : ℕ) (x s : List ℤ) (l : List ℕ) {left : ℕ} → left ≡ 0 → n ≡ first_from (bars_in t left x s l) 0 n
unfolding bars_in
bars-none n t x s l e =
    rw e
    (first_unique _ 0 n n
    (record {
      from = omega arith;
      most = omega arith;
      earlier = λ i h k. rw (has-none i);
      passes = λ h. absurd (omega arith);
    }))
