-- Laws: where each word of a plan's file stands, by section, entry and column, and how long the file is. Assumes nothing.
use Rattle.std.specs.Prelude.{◌≡◌}
use Rattle.std.proofs.Math.Path.{refl, ap}
use Rattle.std.proofs.Common.{sym, ◌∙◌, arith, take_at}
use mathlib.Core.List.{List, [], ◌∷◌, ◌++◌, append_assoc}
use Prim.Native.Nat.{ℕ, zero, suc, ◌+◌, ◌*◌, ◌^◌, ◌≤◌, ◌<◌}
use Rattle.std.proofs.Math.Nat.{mul-le-mul_left}
use Rattle.std.proofs.Math.ListN.{length, get_or, length-append}
use Rattle.std.proofs.Math.Seq.{drop_at}
use Rattle.words.specs.Word.{word, flat}
use Rattle.words.proofs.Laws.Flat.{length-flat, flat_append, word_flat}
use Rattle.plan.specs.Numbers.{sections, entry_sizes, header_bytes}
use Rattle.plan.specs.Lists.{nat_at, joined}
use Rattle.plan.specs.Format.{part}
use Rattle.plan.specs.Tests.{count_list}
use Rattle.plan.specs.Rules.{CountsRule}
use Rattle.plan.specs.Encoding.{length_from, offset_from, offset_of, file_length, header_words, integrator_words, input_words, node_words, link_words}
use Rattle.plan.specs.Encoding.{command_words, file_words, encode}
use Rattle.plan.proofs.Laws.Joined.{joined_split, get_or-joined, length_joined}
use Rattle.plan.specs.declared.Plan.{Plan}

-- what holds of the five sections holds of each
pub each_section : (P : ℕ → Type 0) → P 0 → P 1 → P 2 → P 3 → P 4 → (k : ℕ) → k < sections → P k
each_section P a b c d e zero h = a
each_section P a b c d e (suc zero) h = b
each_section P a b c d e (suc (suc zero)) h = c
each_section P a b c d e (suc (suc (suc zero))) h = d
each_section P a b c d e (suc (suc (suc (suc zero)))) h = e
each_section P a b c d e (suc (suc (suc (suc (suc k))))) h = absurd (omega arith)

-- the length of section k of a plan's file
unfoldable pub length_of : Plan → ℕ → ℕ
length_of p k = length_from (count_list p) k

-- the words of an entry: how many by section, and which
abbrev pub entry_widths : List ℕ
entry_widths = 2 ∷ 1 ∷ 5 ∷ 3 ∷ 3 ∷ []

pub size_width : (k : ℕ) → k < sections → nat_at entry_sizes k ≡ 4 * nat_at entry_widths k
size_width = each_section (λ k. nat_at entry_sizes k ≡ 4 * nat_at entry_widths k) refl refl refl refl refl

module _ (p : Plan) where
  unfoldable pub entry_words : ℕ → ℕ → List ℕ
  entry_words k = get_or (integrator_words p ∷ input_words p ∷ node_words p ∷ link_words p ∷ command_words p ∷ []) k (λ _. [])

  unfoldable pub section_words : ℕ → List ℕ
  section_words k = joined (entry_words k) (nat_at (count_list p) k)

  -- the words of the file up to section k
  unfoldable pub words_to : ℕ → List ℕ
  words_to k = header_words p ++ joined section_words k

  -- ---- offsets
  pub offset-first : offset_of p 0 ≡ header_bytes
  unfolding offset_from offset_of
  offset-first = refl

  pub offset-next : (k : ℕ) → offset_of p (suc k) ≡ offset_of p k + length_of p k
  unfolding offset_from offset_of length_of
  offset-next k = refl

  -- ---- lengths
  pub length-entry : (k i : ℕ) → k < sections → length (entry_words k i) ≡ nat_at entry_widths k
  unfolding entry_words integrator_words input_words node_words link_words command_words
  length-entry k i = each_section (λ k. length (entry_words k i) ≡ nat_at entry_widths k) refl refl refl refl refl k

  pub length_section : (k : ℕ) → k < sections → 4 * length (section_words k) ≡ length_of p k
  unfolding section_words length_of
  length_section k h =
      let l = length_joined (entry_words k) (nat_at entry_widths k) (nat_at (count_list p) k) (λ i g. length-entry k i h) in
      rw (l, size_width k h) (omega arith)

  pub length-header : 4 * length (header_words p) ≡ header_bytes
  unfolding header_words joined
  length-header = refl

  -- where section k starts
  pub length_to : (k : ℕ) → k ≤ sections → 4 * length (words_to k) ≡ offset_of p k
  unfolding words_to offset_from offset_of length_of joined
  length_to zero h = simp length-append (omega (arith, length-header))
  length_to (suc k) h =
      let ih = length_to k (omega arith) in
      let a = length-append (header_words p) (joined section_words k) in
      let b = length-append (joined section_words k) (section_words k) in
      let c = length-append (header_words p) (joined section_words k ++ section_words k) in
      omega (arith, length_section k h)

  pub words_to_lem : file_words p ≡ words_to sections
  unfolding file_words words_to joined section_words entry_words count_list
  words_to_lem = simp append_assoc

  pub length-encode : length (encode p) ≡ file_length p
  unfolding encode file_length
  length-encode = length-flat (file_words p) ∙ ap (λ ws. 4 * length ws) words_to_lem ∙ length_to sections (omega arith)

  -- ---- places
  -- section k stands behind the words up to it
  pub words_split : (k : ℕ) → k < sections → (rest : List ℕ) × (file_words p ≡ words_to k ++ (section_words k ++ rest))
  unfolding words_to
  words_split k h =
      let r = joined_split section_words sections k h in
      (r.0, words_to_lem ∙ rw r.1 (sym (append_assoc (header_words p) (joined section_words k) (section_words k ++ r.0))))

  pub part-encode : (k : ℕ) → k < sections → part (encode p) (offset_of p k) (length_of p k) ≡ flat (section_words k)
  unfolding part encode
  part-encode k h =
      let r = words_split k h in
      let front = flat (words_to k) in
      let here = flat (section_words k) in
      let rest = flat r.0 in
      let split : flat (file_words p) ≡ front ++ (here ++ rest) = rw (r.1, flat_append, flat_append) in
      rw (split, drop_at front (here ++ rest) (offset_of p k) (length-flat (words_to k) ∙ length_to k (omega arith)))
      (take_at here rest (length_of p k) (length-flat (section_words k) ∙ length_section k h))

  -- word c of entry i in its section, and in the file
  module _ (k i c : ℕ) (h : k < sections) (l : i < nat_at (count_list p) k) (g : c < nat_at entry_widths k) where
    pub section_word : get_or (section_words k) (nat_at entry_widths k * i + c) 0 ≡ get_or (entry_words k i) c 0
    unfolding section_words
    section_word =
        let e = length_joined (entry_words k) (nat_at entry_widths k) i (λ j t. length-entry k j h) in
        let d = length-entry k i h in
        rw (← e) (get_or-joined (entry_words k) (nat_at (count_list p) k) i c 0 l (omega arith))

    section_inside : nat_at entry_widths k * i + c < length (section_words k)
    unfolding section_words
    section_inside =
        let e = length_joined (entry_words k) (nat_at entry_widths k) (nat_at (count_list p) k) (λ j t. length-entry k j h) in
        omega (arith, mul-le-mul_left (nat_at entry_widths k) l)

    -- read from the section's bytes
    pub entry_read : get_or (entry_words k i) c 0 < 2 ^ 32
        → word (flat (section_words k)) (nat_at entry_sizes k * i + 4 * c) ≡ get_or (entry_words k i) c 0
    entry_read small =
        let e : nat_at entry_sizes k * i + 4 * c ≡ 4 * (nat_at entry_widths k * i + c) = rw (size_width k h) (omega arith) in
        rw e (word_flat (section_words k) (nat_at entry_widths k * i + c) section_inside (rw section_word small) ∙ section_word)

  -- the header's words
  pub header-offset : (k : ℕ) → k < sections → get_or (header_words p) (1 + 2 * k) 0 ≡ offset_of p k
  unfolding header_words offset_of joined
  header-offset = each_section (λ k. get_or (header_words p) (1 + 2 * k) 0 ≡ offset_of p k) refl refl refl refl refl

  pub header-length : (k : ℕ) → k < sections → get_or (header_words p) (2 + 2 * k) 0 ≡ length_of p k
  unfolding header_words length_of joined
  header-length = each_section (λ k. get_or (header_words p) (2 + 2 * k) 0 ≡ length_of p k) refl refl refl refl refl

  -- ---- limits
  module _ (r : CountsRule p) where
    pub file_least : 52 ≤ file_length p
    unfolding file_length offset_from offset_of length_of count_list
    file_least = omega (arith, r 0 (omega arith))

    pub file_most : file_length p ≤ 4492
    unfolding file_length offset_from offset_of length_of count_list
    file_most = omega (arith, r 0 (omega arith), r 1 (omega arith), r 2 (omega arith), r 3 (omega arith), r 4 (omega arith))

  -- no offset and no end of a section lies behind the file's end
  pub offset-most : (k : ℕ) → k < sections → offset_of p k + length_of p k ≤ file_length p
  unfolding file_length offset_from offset_of length_of
  offset-most =
      each_section (λ k. offset_of p k + length_of p k ≤ file_length p)
      (omega arith) (omega arith) (omega arith) (omega arith) (omega arith)
