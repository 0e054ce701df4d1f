-- Laws: the writers: lists of words, entries or sections, of which each is written into the part of the buffer behind those before it.
-- Assumes nothing.
use Rattle.std.specs.Prelude.{◌≡◌, refl, List, [], ◌++◌, ℕ, ◌+◌, ◌*◌, ◌^◌, ◌≤◌, ◌<◌, ℤ, length}
use Rattle.std.proofs.Math.Path.{sym}
use Rattle.std.proofs.Common.{append_assoc, add-one, arith, length-append}
use Rattle.std.specs.Int.Signed.{mag}
use Rattle.integers.proofs.Laws.Signed64.{rd}
use Rattle.words.specs.Putting.{written}
use Rattle.words.proofs.Laws.Flat.{written_none, written-part, length-written}
use Rattle.words.proofs.Laws.Putting.{rd32, behind, back}
use Rattle.plan.specs.Lists.{int_at, joined}
use Rattle.plan.proofs.Laws.Joined.{length_joined}
use Rattle.sectionwriters.specs.Entries.{Signed32}

-- ---- what the code reads of an array of such numbers
module _ {count : ℕ} {zs : List ℤ} (s : Signed32 count zs) (i : ℕ) (h : i < count) where
  pub rd_at : rd (int_at zs i) ≡ int_at zs i
  rd_at = rd32 (int_at zs i) (s.small i h)

  pub rd_small : mag (rd (int_at zs i)) < 2 ^ 31
  rd_small = rw rd_at (s.small i h)

-- ---- lists of words one behind the other
-- the buffer s begins with the words ws, and the rest is as it was
pub record BeginsWith (ws old s : List ℕ) : Type 0 where
  pub size : length s ≡ length old
  pub words : s ≡ written ws old

pub begun_of : {ws old s : List ℕ} → s ≡ written ws old → 4 * length ws ≤ length old → BeginsWith ws old s
begun_of {ws} {old} e h = record { size = rw e (length-written ws old h); words = e }

module _ (f : ℕ → List ℕ) (old : List ℕ) where
  -- before the first turn of a loop, and after the last
  pub none : BeginsWith (joined f 0) old old
  unfolding joined
  none = record { size = refl; words = sym (written_none old) }

  pub all : {s : List ℕ} {i n : ℕ} → i ≤ n → n ≤ i → BeginsWith (joined f i) old s → s ≡ written (joined f n) old
  all {i = i} {n} h l b = let e : i ≡ n = omega arith in rw e at b.words

-- One more list f i behind `front` and the first i: the step from section to section.
pub turn : (front : List ℕ) (f : ℕ → List ℕ) (old : List ℕ) (i at : ℕ) {s t : List ℕ} → BeginsWith (front ++ joined f i) old s
    → at ≡ 4 * length (front ++ joined f i) → at + 4 * length (f i) ≤ length old → t ≡ written (f i) (behind s at)
    → BeginsWith (front ++ joined f (i + 1)) old (back s at t)
unfolding joined
turn front f old i at b e h q =
    let whole = written-part (front ++ joined f i) (f i) old at b.words e (omega arith) q in
    let assoc = append_assoc front (joined f i) (f i) in
    let l = length-append (front ++ joined f i) (f i) in
    begun_of (rw (add-one, ← assoc) whole) (rw (add-one, ← assoc) (omega arith))

-- One more entry, where each has w words: the turn of each section's loop, and of the header's.
pub entry : (f : ℕ → List ℕ) (w : ℕ) → ((j : ℕ) → length (f j) ≡ w) → (old : List ℕ) (i at : ℕ) {s t : List ℕ} → BeginsWith (joined f i) old s
    → at ≡ 4 * (w * i) → at + 4 * w ≤ length old → t ≡ written (f i) (behind s at) → BeginsWith (joined f (i + 1)) old (back s at t)
entry f w l old i at b e h q =
    let c = length_joined f w i (λ j _. l j) in
    let d = l i in
    turn [] f old i at b (omega arith) (omega arith) q
