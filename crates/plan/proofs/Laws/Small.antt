-- Laws: every word of the file of a plan that keeps the rules is below 2 ^ 32. Assumes nothing.
use Rattle.std.specs.Prelude.{Bool, true, false, List, [], ◌∷◌, ◌++◌, ◌≡◌, refl, ℕ, zero, suc, ◌+◌, ◌^◌, ◌≤◌, ◌<◌, ℤ, pos, negsuc, ◌≤ℤ◌, leb, eqb, get_or}
use Rattle.std.proofs.Common.{arith, leb-true, leb-false, eqb-true}
use Rattle.std.specs.Int.Signed.{mag}
use Rattle.std.proofs.lemmas.Bool.{eqb-false}
use Rattle.integers.specs.Parts.{∣◌∣}
use Rattle.integers.proofs.Laws.Parts.{neg, tight, zs}
use Rattle.words.specs.Word.{word_of}
use Rattle.words.proofs.Laws.Signs.{unsigned_lt}
use Rattle.plan.specs.Numbers.{M, sections}
use Rattle.plan.specs.Lists.{nat_at, int_at, joined}
use Rattle.plan.specs.Tests.{count_list}
use Rattle.plan.specs.Rules.{Within, NodeRule, PlanRules}
use Rattle.plan.specs.Encoding.{pair_entry, offset_of, header_words, integrator_words, input_words, node_words, link_words, command_words}
use Rattle.plan.proofs.Laws.Layout.{length_of}
use Rattle.plan.specs.Encoding.{file_words}
use Rattle.plan.proofs.Laws.Layout.{each_section, entry_words, section_words, words_to, words_to_lem, file_most, offset-most}
use Rattle.plan.specs.declared.Plan.{Plan}

-- each word of a list fits 32 bits
abbrev pub Small : List ℕ → Type 0
Small [] = Unit {0}
Small (v ∷ ws) = (v < 2 ^ 32) × Small ws

pub small_at : (ws : List ℕ) → Small ws → (c : ℕ) → get_or ws c 0 < 2 ^ 32
small_at [] s c = omega arith
small_at (v ∷ ws) s zero = s.0
small_at (v ∷ ws) s (suc c) = small_at ws s.1 c

small-append : (a b : List ℕ) → Small a → Small b → Small (a ++ b)
small-append [] b s t = t
small-append (v ∷ a) b s t = (s.0, small-append a b s.1 t)

small_joined : (f : ℕ → List ℕ) (n : ℕ) → ((i : ℕ) → i < n → Small (f i)) → Small (joined f n)
unfolding joined
small_joined f zero s = tt
small_joined f (suc n) s = small-append (joined f n) (f n) (small_joined f n (λ i h. s i (omega arith))) (s n (omega arith))

-- ---- the numbers of an entry
-- the library's bound of a signed number is at most its size
pub size_mag : (z : ℤ) → mag z ≤ ∣ z ∣
size_mag (pos n) = omega arith
size_mag (negsuc n) = omega arith

pub signed_size : (z : ℤ) → Within M z → mag z < 2 ^ 31
signed_size z h = omega (arith, zs, neg (pos M), tight z, size_mag z)

pub coefficient-within : {z : ℤ} → Within 16777216 z → Within M z
coefficient-within h = omega (arith, zs, neg (pos 16777216), neg (pos M))

pub quantum-within : {z : ℤ} → pos 1 ≤ℤ z → z ≤ℤ pos M → Within M z
quantum-within h l = omega (arith, zs, neg (pos M))

signed_small : (z : ℤ) → Within M z → word_of z < 2 ^ 32
signed_small z h = unsigned_lt 4 (omega arith) z (signed_size z h)

module _ (p : Plan) (j : ℕ) (r : NodeRule p j) where
  -- what a node of any kind keeps
  node_right : nat_at p.nodes.b j ≤ p.counts.n + p.counts.m + j
  node_right = go (eqb (nat_at p.nodes.kinds j) 2) refl
    where
      go : (b : Bool) → eqb (nat_at p.nodes.kinds j) 2 ≡ b → nat_at p.nodes.b j ≤ p.counts.n + p.counts.m + j
      go true e = omega (arith, r.unused (eqb-true (nat_at p.nodes.kinds j) 2 e))
      go false e = omega (arith, r.b-below (eqb-false (nat_at p.nodes.kinds j) 2 e))

  pub node-limits : Within M (int_at p.nodes.lows j) × Within M (int_at p.nodes.highs j)
  node-limits = go (leb (nat_at p.nodes.kinds j) 1) refl
    where
      go : (b : Bool) → leb (nat_at p.nodes.kinds j) 1 ≡ b → Within M (int_at p.nodes.lows j) × Within M (int_at p.nodes.highs j)
      go true e = omega (arith, zs, neg (pos M), r.no_limits (leb-true (nat_at p.nodes.kinds j) 1 e))
      go false e = r.limits (leb-false (nat_at p.nodes.kinds j) 1 e)

-- ---- the words of each part
module _ (p : Plan) (r : PlanRules p) where
  header-small : Small (header_words p)
  unfolding header_words offset_of length_of
  header-small = (omega (arith, r.horizon), small_joined (pair_entry (count_list p)) sections pair)
    where
      pair : (k : ℕ) → k < sections → Small (offset_of p k ∷ length_of p k ∷ [])
      pair k h = omega (arith, offset-most p k h, file_most p r.counts)

  pub entry-small : (k i : ℕ) → k < sections → i < nat_at (count_list p) k → Small (entry_words p k i)
  unfolding count_list entry_words integrator_words input_words node_words link_words command_words
  entry-small k i = each_section (λ k. i < nat_at (count_list p) k → Small (entry_words p k i)) integrator input node link command k
    where
      integrator : i < p.counts.n → Small (integrator_words p i)
      integrator l =
          let e = r.integrators i l in
          (signed_small (int_at p.integrators.starts i) e.start, (signed_small (int_at p.integrators.quanta i) (quantum-within e.least e.most), tt))

      input : i < p.counts.m → Small (input_words p i)
      input l = (signed_small (int_at p.inputs.firsts i) (r.inputs i l), tt)

      node : i < p.counts.k → Small (node_words p i)
      node l =
          let e = r.nodes i l in
          let right = node_right p i e in
          let low = signed_small (int_at p.nodes.lows i) (node-limits p i e).0 in
          let high = signed_small (int_at p.nodes.highs i) (node-limits p i e).1 in
          omega (arith, r.counts 0 (omega arith), r.counts 1 (omega arith), r.counts 2 (omega arith))

      link : i < p.counts.links → Small (link_words p i)
      link l =
          let e = r.links i l in
          let coefficient = signed_small (int_at p.links.coefficients i) (coefficient-within e.coefficient) in
          omega (arith, r.counts 0 (omega arith), r.counts 1 (omega arith), r.counts 2 (omega arith))

      command : i < p.counts.commands → Small (command_words p i)
      command l =
          let e = r.commands i l in
          let value = signed_small (int_at p.commands.values i) e.value in
          omega (arith, r.horizon, r.counts 1 (omega arith))

  pub file_small : Small (file_words p)
  unfolding words_to section_words
  file_small =
      rw (words_to_lem p)
      (small-append (header_words p) (joined (section_words p) sections) header-small
      (small_joined (section_words p) sections (λ k h. small_joined (entry_words p k) (nat_at (count_list p) k) (λ i l. entry-small k i h l))))
