-- Laws: numbers that are put into a list of bytes, for every width w.
use Rattle.std.specs.Prelude.{ℕ, ◌+◌, ◌-◌, ◌^◌, ◌≤◌, ◌<◌, ◌≡◌, ◌⊎◌, get_or, take}
use Rattle.std.proofs.Common.{arith, sym, ap, ◌∙◌, inl, inr, ⊎_elim, length-append, length-drop, get_or-take, get_or-drop, drop_at}
use mathlib.Core.List.{List, ◌++◌, append_assoc}
use Rattle.std.proofs.Math.ListN.{length, drop, take-append-drop}
use Rattle.std.proofs.lemmas.List.Edits.{sets}
use Rattle.std.proofs.Math.Seq.{sets-eq, length-take-le, drop-drop, take_at}
use Rattle.words.specs.Word.{Bytes, number_at, bytes_of}
use Rattle.words.specs.Putting.{put}
use Rattle.words.proofs.Laws.Reading.{number_ext, number_behind, number-bytes, length-bytes, bytes-number}
use Rattle.words.proofs.Laws.Reading.{bytes-append, bytes_take, bytes_drop, bytes-bytes}

-- ---- two lists that agree up to a place, or from a place on
module _ (s t : List ℕ) (n : ℕ) where
  pub get_d_front : (i : ℕ) → take n s ≡ take n t → i < n → get_or s i 0 ≡ get_or t i 0
  get_d_front i e h = sym (get_or-take n s i 0 h) ∙ ap (λ (l : List ℕ). get_or l i 0) e ∙ get_or-take n t i 0 h

  pub get_or-rest : (i : ℕ) → drop n s ≡ drop n t → n ≤ i → get_or s i 0 ≡ get_or t i 0
  get_or-rest i e h =
      let k : n + (i - n) ≡ i = omega arith in
      rw k at (sym (get_or-drop n s (i - n) 0) ∙ ap (λ (l : List ℕ). get_or l (i - n) 0) e ∙ get_or-drop n t (i - n) 0)

-- ---- a number at a place
module _ (w : ℕ) (s : List ℕ) (at : ℕ) (fits : at + w ≤ length s) where
  -- its bytes stored one after the other
  pub sets-put : (v : ℕ) → sets s at (bytes_of w v) ≡ put w s at v
  unfolding put
  sets-put v =
      let l = length-bytes w v in
      sets-eq (bytes_of w v) s at (omega arith) ∙ rw (l, append_assoc)

  pub length-put : (v : ℕ) → length (put w s at v) ≡ length s
  unfolding put
  length-put v = let l = length-take-le at s (omega arith) in simp (length-append, length-bytes, length-drop) (omega arith)

  -- it is read back
  pub number_put : (v : ℕ) → v < 256 ^ w → number_at w (put w s at v) at ≡ v
  unfolding put
  number_put v h =
      let l = length-take-le at s (omega arith) in
      number_behind w (take at s) (bytes_of w v ++ drop (at + w) s) 0 at (omega arith) ∙ number-bytes w v (drop (at + w) s) h

  -- what was read is put back: nothing changes
  pub put-number : Bytes s → put w s at (number_at w s at) ≡ s
  unfolding put
  put-number b = rw (bytes-number w at b fits, ← drop-drop w at s, take-append-drop, take-append-drop)

  -- all other bytes stay
  pub take_put : (v : ℕ) → take at (put w s at v) ≡ take at s
  unfolding put
  take_put v = take_at (take at s) (bytes_of w v ++ drop (at + w) s) at (length-take-le at s (omega arith))

  pub drop-put : (v : ℕ) → drop (at + w) (put w s at v) ≡ drop (at + w) s
  unfolding put
  drop-put v =
      let l = length-take-le at s (omega arith) in
      let e : length (take at s ++ bytes_of w v) ≡ at + w = simp (length-append, length-bytes) (omega arith) in
      rw (← append_assoc (take at s) (bytes_of w v) (drop (at + w) s)) (drop_at (take at s ++ bytes_of w v) (drop (at + w) s) (at + w) e)

  pub get_or-put_other : (v i : ℕ) → (i < at) ⊎ (at + w ≤ i) → get_or (put w s at v) i 0 ≡ get_or s i 0
  get_or-put_other v i h = ⊎_elim (get_d_front (put w s at v) s at i (take_put v)) (get_or-rest (put w s at v) s (at + w) i (drop-put v)) h

  -- so does a number of n bytes that lies elsewhere
  pub number-put_other : (v n to : ℕ) → (to + n ≤ at) ⊎ (at + w ≤ to) → number_at n (put w s at v) to ≡ number_at n s to
  number-put_other v n to h =
      number_ext n (put w s at v) s to to
      (λ i k. get_or-put_other v (to + i) (⊎_elim (λ x. inl (omega arith)) (λ x. inr (omega arith)) h))

  pub bytes-put : (v : ℕ) → Bytes s → Bytes (put w s at v)
  unfolding put
  bytes-put v b = bytes-append (bytes_take at b) (bytes-append (bytes-bytes w v) (bytes_drop (at + w) b))
