-- Laws: words that are put one behind the other from a list's start, and the part of a list that is lent from a place on. Assumes nothing.
use Rattle.std.specs.Prelude.{◌≡◌, refl, List, [], ◌∷◌, ◌++◌, ℕ, ◌-◌, ◌*◌, ◌^◌, ◌<◌, ℤ, length, take, drop}
use Rattle.std.proofs.Common.{sym, ◌∙◌, arith, length-take, length-drop, to_z, of_z}
use Rattle.std.specs.Int.Signed.{mag}
use Rattle.std.specs.Int.{w64}
use mir.ValLaws.{to_z-of_z}
use Rattle.words.specs.Putting.{put, written}
use Rattle.words.specs.Word.{word_of}
use Rattle.words.proofs.Laws.Flat.{written_none, written_more}

-- a signed number of 32 bits is what its 64 bits stand for
pub rd32 : (z : ℤ) → mag z < 2 ^ 31 → to_z w64 (of_z w64 z) ≡ z
rd32 z h = to_z-of_z w64 z (record { sfits = omega arith })

-- the buffer s is `old` with the words ws in front; the empty list to begin with
pub record Put (ws old s : List ℕ) : Type 0 where
  pub words : s ≡ written ws old

pub begin : (old : List ℕ) → Put [] old old
begin old = record { words = sym (written_none old) }

module _ {ws old s t : List ℕ} (h : Put ws old s) where
  -- one more word, s before and t after the store
  pub more : (v : ℕ) → t ≡ put 4 s (4 * length ws) v → Put (ws ++ v ∷ []) old t
  more v e = record { words = e ∙ rw h.words (written_more ws old (4 * length ws) v refl) }

  -- the same of a signed number, whose word the code works out from its 64 bits
  pub more_signed : (z : ℤ) → mag z < 2 ^ 31 → t ≡ put 4 s (4 * length ws) (word_of (to_z w64 (of_z w64 z))) → Put (ws ++ word_of z ∷ []) old t
  more_signed z f e = more (word_of z) (rw (rd32 z f) at e)

-- ---- the part of s that is lent from byte `at` on, and s when it has come back as t
abbrev pub behind : List ℕ → ℕ → List ℕ
behind s at = take (length s - at) (drop at s)

abbrev pub back : List ℕ → ℕ → List ℕ → List ℕ
back s at t = take at s ++ (t ++ drop (length s - at) (drop at s))

pub length_behind : (s : List ℕ) (at : ℕ) → length (behind s at) ≡ length s - at
length_behind s at = simp (length-take, length-drop) (omega arith)
