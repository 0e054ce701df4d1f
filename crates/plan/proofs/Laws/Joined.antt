-- Laws: lists that stand one behind the other: where the k-th stands, what is read there, and how long all of them are. Assumes nothing.
use Rattle.std.specs.Prelude.{◌≡◌, refl, length, get_or, take, drop}
use Rattle.std.proofs.Common.{sym, ◌∙◌, length-append, get_or-append-add}
use mathlib.Core.List.{List, [], ◌++◌, append_assoc, append-nil}
use Prim.Native.Nat.{ℕ, zero, suc, ◌+◌, ◌*◌, ◌≤◌, ◌<◌}
use native.Mathlib.Omega.{arith}
use Rattle.std.proofs.Math.ListN.{get_or-append}
use Rattle.std.proofs.Math.Seq.{take-add}
use Rattle.words.specs.Word.{number_at, flat}
use Rattle.words.proofs.Laws.Reading.{number_behind, number_before}
use Rattle.words.proofs.Laws.Flat.{flat_append}
use Rattle.plan.specs.Lists.{joined}
use Rattle.plan.proofs.Laws.Searches.{below_suc}

module _ {A : Type 0} (f : ℕ → List A) where
  -- the k-th stands behind those before it, and something behind it
  pub joined_split : (n k : ℕ) → k < n → (rest : List A) × (joined f n ≡ joined f k ++ (f k ++ rest))
  unfolding joined
  joined_split zero k h = absurd (omega arith)
  joined_split (suc n) k h =
      below_suc (λ j. (rest : List A) × (joined f (suc n) ≡ joined f j ++ (f j ++ rest))) h
      (λ l. let r = joined_split n k l in (r.0 ++ f n, rw r.1 (simp append_assoc)))
      ([], rw append-nil)

  pub get_or-joined : (n k c : ℕ) (z : A) → k < n → c < length (f k) → get_or (joined f n) (length (joined f k) + c) z ≡ get_or (f k) c z
  get_or-joined n k c z h l =
      let r = joined_split n k h in
      rw (r.1, get_or-append-add (joined f k) (f k ++ r.0) c z) (get_or-append (f k) r.0 z c l)

  pub length_joined : (w n : ℕ) → ((i : ℕ) → i < n → length (f i) ≡ w) → length (joined f n) ≡ w * n
  unfolding joined
  length_joined w zero e = omega arith
  length_joined w (suc n) e =
      simp (length-append, length_joined w n (λ i h. e i (omega arith)), e n (omega arith)) (omega arith)

  -- those that are parts of a list, each from where the one before it ends, are that part of the list
  pub joined_parts : (s : List A) (at : ℕ → ℕ) (n : ℕ)
      → ((k : ℕ) → k < n → (at (suc k) ≡ at k + length (f k)) × (f k ≡ take (length (f k)) (drop (at k) s)))
      → take (at 0) s ++ joined f n ≡ take (at n) s
  unfolding joined
  joined_parts s at zero e = append-nil (take (at 0) s)
  joined_parts s at (suc n) e =
      let last = e n (omega arith) in
      let earlier = joined_parts s at n (λ k h. e k (omega arith)) in
      rw (last.0, take-add, ← last.1, ← earlier) (sym (append_assoc (take (at 0) s) (joined f n) (f n)))

-- a number is read in the k-th as behind those before it
pub number_joined : (w : ℕ) (f : ℕ → List ℕ) (n k c : ℕ) → k < n → c + w ≤ length (f k)
    → number_at w (joined f n) (length (joined f k) + c) ≡ number_at w (f k) c
number_joined w f n k c h l =
    let r = joined_split f n k h in
    rw r.1 (number_behind w (joined f k) (f k ++ r.0) c (length (joined f k) + c) refl ∙ number_before w (f k) r.0 c l)

-- the bytes of words one behind the other
pub flat_joined : (f : ℕ → List ℕ) (n : ℕ) → flat (joined f n) ≡ joined (λ i. flat (f i)) n
unfolding joined flat
flat_joined f zero = refl
flat_joined f (suc n) = rw (flat_append (joined f n) (f n), flat_joined f n)
