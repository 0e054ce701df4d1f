-- Laws: what is worked out node by node is settled once its node is: later nodes do not change it. Serves the values of sources and what
-- depends on a change, which follow the nodes alike. Assumes nothing.
use Rattle.std.specs.Prelude.{◌≡◌, refl, Bool, true, false, cond, ℕ, zero, suc, ◌+◌, ◌≤◌, ◌<◌, eqb}
use Rattle.std.proofs.Common.{◌∙◌, arith, eqb-true, eq-eqb, ne_eqb}
use Rattle.std.proofs.lemmas.Bool.{eqb-false}

-- `found j i` is what is known of source i once j nodes are worked out, `node j` what is found for node j, whose source number is base + j
module _ {A : Type 0} (base : ℕ) (found : ℕ → ℕ → A) (node : ℕ → A)
    (step : (j i : ℕ) → found (suc j) i ≡ cond (eqb i (base + j)) (node j) (found j i)) where
  pub settled_at : (j k i : ℕ) → j ≤ k → i < base + j → found k i ≡ found j i
  settled_at j zero i h l = let same : j ≡ 0 = omega arith in rw same
  settled_at j (suc k) i h l = go (eqb j (suc k)) refl (settled_at j k i)
    where
      go : (b : Bool) → eqb j (suc k) ≡ b → (j ≤ k → i < base + j → found k i ≡ found j i) → found (suc k) i ≡ found j i
      go true e ih = rw (eqb-true j (suc k) e)
      go false e ih =
          let m : j ≤ k = omega (arith, eqb-false j (suc k) e) in
          step k i ∙ rw (ne_eqb i (base + k) (λ f. omega arith)) (ih m l)

  pub node_at_lem : (j k : ℕ) → j < k → found k (base + j) ≡ node j
  node_at_lem j k h = settled_at (suc j) k (base + j) h (omega arith) ∙ step j (base + j) ∙ rw (eq-eqb (base + j) (base + j) refl)
