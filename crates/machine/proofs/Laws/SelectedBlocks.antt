-- Laws: blocks of one length, one behind the other, of those numbers that pass a test: where each stands. Assumes nothing.
use Rattle.std.specs.Prelude.{◌≡◌, refl, Bool, List, []}
use Rattle.std.proofs.Common.{ap, ◌∙◌}
use Rattle.std.proofs.Math.Bool.{true, false, cond}
use Prim.Native.Nat.{ℕ, zero, suc, ◌+◌, ◌*◌, ◌≤◌, ◌<◌}
use native.Mathlib.Omega.{arith}
use Rattle.std.proofs.Math.ListN.{length, length-append}
use Rattle.bitset.specs.Counts.{count_of}
use Rattle.words.specs.Word.{Bytes, number_at}
use Rattle.words.proofs.Laws.Reading.{bytes-append}
use Rattle.plan.specs.Lists.{joined}
use Rattle.plan.proofs.Laws.Joined.{number_joined}

module _ (test : ℕ → Bool) (block : ℕ → List ℕ) (w : ℕ) (size : (i : ℕ) → length (block i) ≡ w) where
  pub length_chosen : (n : ℕ) → length (joined (λ i. cond (test i) (block i) []) n) ≡ w * count_of test n
  unfolding joined count_of
  length_chosen zero = omega arith
  length_chosen (suc n) = rw length-append (go (test n) _ (count_of test n) (length_chosen n))
    where
      go : (b : Bool) (l c : ℕ) → l ≡ w * c → l + length (cond b (block n) []) ≡ w * cond b (suc c) c
      go true l c e = omega (arith, size n)
      go false l c e = omega arith

  -- a number is read in the block of i as behind the blocks before it
  pub number_chosen : (bytes n i c : ℕ) → i < n → test i ≡ true → c + bytes ≤ w
      → number_at bytes (joined (λ i. cond (test i) (block i) []) n) (w * count_of test i + c) ≡ number_at bytes (block i) c
  number_chosen bytes n i c h t l =
      let chosen : cond (test i) (block i) [] ≡ block i = rw t in
      let inside : c + bytes ≤ length (cond (test i) (block i) []) = rw (chosen, size i) l in
      rw (← length_chosen i) (number_joined bytes (λ j. cond (test j) (block j) []) n i c h inside ∙ ap (λ s. number_at bytes s c) chosen)

-- blocks of bytes make a list of bytes
pub no_bytes : Bytes []
no_bytes = record { byte = λ i. omega arith }

pub bytes_chosen : (test : ℕ → Bool) (block : ℕ → List ℕ) → ((i : ℕ) → Bytes (block i)) → (n : ℕ) → Bytes (joined (λ i. cond (test i) (block i) []) n)
unfolding joined
bytes_chosen test block b zero = no_bytes
bytes_chosen test block b (suc n) = bytes-append (bytes_chosen test block b n) (go (test n))
  where
    go : (c : Bool) → Bytes (cond c (block n) [])
    go true = b n
    go false = no_bytes

-- blocks that are the same, one by one
pub joined_ext : (f g : ℕ → List ℕ) (n : ℕ) → ((i : ℕ) → i < n → f i ≡ g i) → joined f n ≡ joined g n
unfolding joined
joined_ext f g zero e = refl
joined_ext f g (suc n) e = rw (e n (omega arith), joined_ext f g n (λ i h. e i (omega arith)))
