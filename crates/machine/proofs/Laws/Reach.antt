-- Laws: the tests of which sources change and which integrators are reached are the relations in document 01's words. Assumes nothing.
use Rattle.std.specs.Prelude.{◌≡◌, Bool, not, ◌&&◌, ◌||◌, List, eqb}
use Rattle.std.proofs.Math.Path.{refl}
use Rattle.std.proofs.Common.{sym, ◌∙◌, true≢false}
use Rattle.std.proofs.Math.Bool.{true, false, cond, or-true}
use Prim.Native.Nat.{ℕ, zero, suc, ◌+◌, ◌-◌, ◌≤◌, ◌<◌}
use native.Mathlib.Omega.{arith}
use Rattle.std.proofs.Math.Dec.{ltb}
use borrow.Author.Tests.{ltb-true, ltb-false, lt-ltb, le-ltb, eqb-true, eqb-false, eq-eqb, ne_eqb}
use Rattle.plan.specs.Lists.{nat_at, some}
use Rattle.plan.specs.Rules.{PlanRules}
use Rattle.plan.proofs.Laws.TestMeanings.{Means, means_false, eqb_means, both}
use Rattle.plan.proofs.Laws.Searches.{some_found, some_here}
use Rattle.plan.specs.declared.Plan.{Plan}
use Rattle.machine.specs.Reach.{is_due, sets_input, is_commanded, woken, changes_by, changes, depends_with, link_reaches, reached}
use Rattle.machine.specs.Reach.{Changed, due, commanded, Depends, itself, by_a, by_b, Reached, link}
use Rattle.machine.proofs.Laws.Entries.{sets_means}
use Rattle.machine.proofs.Laws.NodeOrder.{settled_at}
use Rattle.machine.proofs.Laws.Woken.{woken_means}

-- ---- what changes
pub commanded_means : (p : Plan) (t j : ℕ)
    → Means (is_commanded p t j) ((e : ℕ) × (e < p.counts.commands) × (nat_at p.commands.ticks e ≡ t) × (nat_at p.commands.inputs e ≡ j))
unfolding is_commanded
commanded_means p t j = (
  λ h. let f = some_found (sets_input p t j) p.counts.commands h in let s = (sets_this f.0).0 f.2 in (f.0, f.1, s.0, s.1),
  λ f. some_here (sets_input p t j) p.counts.commands f.0 f.1 ((sets_this f.0).1 (f.2, f.3)),
)
  where
    sets_this : (e : ℕ) → Means (sets_input p t j e) ((nat_at p.commands.ticks e ≡ t) × (nat_at p.commands.inputs e ≡ j))
    sets_this = sets_means p.commands.ticks p.commands.inputs t j

module _ (p : Plan) (d : List ℕ) (t : ℕ) where
  changes_found : (i : ℕ) → changes p d t i ≡ true → Changed p d t i
  unfolding changes_by
  changes_found i = go (ltb i p.counts.n) (ltb i (p.counts.n + p.counts.m)) refl refl
    where
      go : (a b : Bool) → ltb i p.counts.n ≡ a → ltb i (p.counts.n + p.counts.m) ≡ b
          → cond a (woken (is_due d t) i) (b && is_commanded p t (i - p.counts.n)) ≡ true → Changed p d t i
      go true b h k e = due (ltb-true i p.counts.n h) ((woken_means d t i).0 e)
      go false true h k e =
          let c = (commanded_means p t (i - p.counts.n)).0 e in let l = ltb-false i p.counts.n h in
          commanded {i = i} (i - p.counts.n) c.0 (omega arith) (omega (arith, ltb-true i (p.counts.n + p.counts.m) k)) c.1 c.2 c.3
      go false false h k e = absurd (true≢false (sym e))

  changes_here : {i : ℕ} → Changed p d t i → (i < p.counts.n + p.counts.m) × (changes p d t i ≡ true)
  unfolding changes_by
  changes_here {i} (due h e) = (omega arith, rw (lt-ltb i p.counts.n h) ((woken_means d t i).1 e))
  changes_here {i} (commanded j e k h l a b) =
      let c = (commanded_means p t j).1 (e, l, a, b) in let same : i - p.counts.n ≡ j = omega arith in
      (omega arith, rw (le-ltb i p.counts.n (omega arith), lt-ltb i (p.counts.n + p.counts.m) (omega arith), same, c))

  pub changes_means : (i : ℕ) → Means (changes p d t i) (Changed p d t i)
  changes_means i = (changes_found i, λ c. (changes_here c).1)

-- ---- over any set of sources, as a test and in words
module _ (p : Plan) (changed : ℕ → Bool) (Change : ℕ → Type 0) (means : (i : ℕ) → Means (changed i) (Change i)) where
  -- what depends on it: a source below n + m + j has its answer once j nodes are looked at
  depends_same : (j k i : ℕ) → j ≤ k → i < p.counts.n + p.counts.m + j → depends_with p changed k i ≡ depends_with p changed j i
  unfolding depends_with
  depends_same = settled_at (p.counts.n + p.counts.m) (depends_with p changed) _ (λ j i. refl)

  depends_found : (k i : ℕ) → k ≤ p.counts.k → depends_with p changed k i ≡ true → Depends p Change i
  unfolding depends_with
  depends_found zero i h = λ e. itself ((means i).0 e)
  depends_found (suc k) i h =
      go (λ s e. depends_found k s (omega arith) e) (eqb i (p.counts.n + p.counts.m + k)) refl (depends_with p changed k a) refl
      (eqb (nat_at p.nodes.kinds k) 2) refl
    where
      a : ℕ
      a = nat_at p.nodes.a k

      b : ℕ
      b = nat_at p.nodes.b k

      go : ((s : ℕ) → depends_with p changed k s ≡ true → Depends p Change s) → (this : Bool) → eqb i (p.counts.n + p.counts.m + k) ≡ this
          → (onA : Bool) → depends_with p changed k a ≡ onA → (two : Bool) → eqb (nat_at p.nodes.kinds k) 2 ≡ two
          → cond this (onA || (not two && depends_with p changed k b)) (depends_with p changed k i) ≡ true → Depends p Change i
      go ih true f true g two u e = by_a k (eqb-true i (p.counts.n + p.counts.m + k) f) h (ih a g)
      go ih true f false g true u e = absurd (true≢false (sym e))
      go ih true f false g false u e = by_b k (eqb-true i (p.counts.n + p.counts.m + k) f) h (eqb-false (nat_at p.nodes.kinds k) 2 u) (ih b e)
      go ih false f onA g two u e = ih i e

  -- an operand's answer is known where its node is looked at
  operand : (j i : ℕ) → j < p.counts.k → i < p.counts.n + p.counts.m + j → depends_with p changed p.counts.k i ≡ true → depends_with p changed j i ≡ true
  operand j i h l e = sym (depends_same j p.counts.k i (omega arith) l) ∙ e

  -- by the plan rules a node's operands stand below it; what changes is an integrator or an input
  module _ (rules : PlanRules p) (source : (i : ℕ) → Change i → i < p.counts.n + p.counts.m) where
    depends_here : {i : ℕ} → Depends p Change i → depends_with p changed p.counts.k i ≡ true
    unfolding depends_with
    depends_here {i} (itself c) = depends_same 0 p.counts.k i (omega arith) (omega (arith, source i c)) ∙ (means i).1 c
    depends_here {i} (by_a j e h l) =
        let on = operand j (nat_at p.nodes.a j) h (rules.nodes j h).a-below (depends_here l) in
        depends_same (suc j) p.counts.k i h (omega arith) ∙ rw (eq-eqb i (p.counts.n + p.counts.m + j) e, on)
    depends_here {i} (by_b j e h kind r) =
        let on = operand j (nat_at p.nodes.b j) h ((rules.nodes j h).b-below kind) (depends_here r) in
        depends_same (suc j) p.counts.k i h (omega arith)
        ∙ rw (eq-eqb i (p.counts.n + p.counts.m + j) e, ne_eqb (nat_at p.nodes.kinds j) 2 kind, on, or-true (depends_with p changed j (nat_at p.nodes.a j)))

  -- which integrators are reached
  link_means : (i e : ℕ) → Means (link_reaches p changed i e) ((nat_at p.links.targets e ≡ i) × (depends_with p changed p.counts.k (nat_at p.links.sources e) ≡ true))
  unfolding link_reaches
  link_means i e = both (eqb_means (nat_at p.links.targets e) i) (λ h. h, λ h. h)

  reached_found : (i : ℕ) → reached p changed i ≡ true → Reached p Change i
  unfolding reached
  reached_found i h =
      let f = some_found (link_reaches p changed i) p.counts.links h in let l = (link_means i f.0).0 f.2 in
      link f.0 f.1 l.0 (depends_found p.counts.k (nat_at p.links.sources f.0) (omega arith) l.1)

  reached_false : (i : ℕ) → (Reached p Change i → ⊥) → reached p changed i ≡ false
  reached_false i = means_false (reached_found i)

  reach_means : PlanRules p → ((i : ℕ) → Change i → i < p.counts.n + p.counts.m) → (i : ℕ) → Means (reached p changed i) (Reached p Change i)
  unfolding reached
  reach_means rules source i = (reached_found i, here)
    where
      here : Reached p Change i → some (link_reaches p changed i) p.counts.links ≡ true
      here (link e h k s) = some_here (link_reaches p changed i) p.counts.links e h ((link_means i e).1 (k, depends_here rules source s))

-- ---- at an instant
module _ (p : Plan) (d : List ℕ) (t i : ℕ) where
  pub instant_reaches : PlanRules p → Means (reached p (changes p d t) i) (Reached p (Changed p d t) i)
  instant_reaches rules = reach_means p (changes p d t) (Changed p d t) (changes_means p d t) rules (λ j c. (changes_here p d t c).0) i

  pub instant_not_reached : (Reached p (Changed p d t) i → ⊥) → reached p (changes p d t) i ≡ false
  instant_not_reached = reached_false p (changes p d t) (Changed p d t) (changes_means p d t) i
