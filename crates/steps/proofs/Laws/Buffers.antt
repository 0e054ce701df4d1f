-- Laws: bytes that are put into a buffer from a place on: none, the buffer's length, bytes behind one another, and words that were written
-- into a part that was lent. Assumes nothing.
use Rattle.std.specs.Prelude.{◌≡◌, ℕ, ◌+◌, ◌-◌, ◌≤◌, take, drop}
use Rattle.std.proofs.Common.{◌∙◌, add_assoc, add-zero, arith, length-drop, take-append-drop, drop_of_length-le, take_all, take_at, drop_at, drop-drop}
use mathlib.Core.List.{List, [], ◌++◌, append_assoc, append-nil}
use Rattle.std.proofs.Math.ListN.{length, length-append}
use Rattle.std.proofs.Math.Seq.{length-take-le}
use Rattle.words.specs.Word.{flat}
use Rattle.words.specs.Putting.{written}
use Rattle.words.proofs.Laws.Flat.{length-flat}
use Rattle.words.proofs.Laws.Putting.{behind, back}
use Rattle.steps.specs.Events.{put_at}

pub put-none : (b : List ℕ) (at : ℕ) → put_at b at [] ≡ b
unfolding put_at
put-none b at = rw add-zero (take-append-drop at b)

put_split : (b : List ℕ) (at : ℕ) (xs : List ℕ) → put_at b at xs ≡ take at b ++ (xs ++ drop (length xs) (drop at b))
unfolding put_at
put_split b at xs = rw drop-drop

module _ (b : List ℕ) (at : ℕ) (xs : List ℕ) where
  pub length-put : at + length xs ≤ length b → length (put_at b at xs) ≡ length b
  unfolding put_at
  length-put h = let l = length-take-le at b (omega arith) in simp (length-append, length-drop) (omega arith)

  -- what stands in front of the end of those bytes, and what stands behind it
  module _ (h : at ≤ length b) where
    front : length (take at b ++ xs) ≡ at + length xs
    front = simp (length-append, length-take-le at b h)

    take_put : take (at + length xs) (put_at b at xs) ≡ take at b ++ xs
    unfolding put_at
    take_put = rw (← append_assoc (take at b) xs (drop (at + length xs) b)) (take_at (take at b ++ xs) _ (at + length xs) front)

    drop-put : drop (at + length xs) (put_at b at xs) ≡ drop (at + length xs) b
    unfolding put_at
    drop-put = rw (← append_assoc (take at b) xs (drop (at + length xs) b)) (drop_at (take at b ++ xs) _ (at + length xs) front)

    behind_one_another : (ys : List ℕ) → (take at b ++ xs) ++ (ys ++ drop (length ys) (drop (at + length xs) b)) ≡ put_at b at (xs ++ ys)
    unfolding put_at
    behind_one_another ys = simp (drop-drop, append_assoc, length-append, add_assoc)

    -- more bytes behind them
    pub put-append : (ys : List ℕ) → put_at (put_at b at xs) (at + length xs) ys ≡ put_at b at (xs ++ ys)
    put-append ys = put_split (put_at b at xs) (at + length xs) ys ∙ rw (take_put, drop-put) (behind_one_another ys)

-- words that were written at the start of the part of s that is lent from byte `at` on, which comes back as r
pub put_back : (s : List ℕ) (at : ℕ) (ws : List ℕ) {r : List ℕ} → r ≡ written ws (behind s at)
    → back s at r ≡ put_at s at (flat ws)
unfolding put_at written
put_back s at ws e =
    let short : length (drop at s) ≤ length s - at = simp length-drop (omega arith) in
    let all = take_all (length s - at) (drop at s) short in
    let none = drop_of_length-le (drop at s) short in
    rw (e, all, none, append-nil, drop-drop, length-flat)
