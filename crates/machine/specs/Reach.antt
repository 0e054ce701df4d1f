-- Binding definition: who is due, and what an instant makes of that; steps 2 and 4, which inputs are commanded, what depends on what changes,
-- and which integrators are reached. What changes, depends and is reached stands here as propositions too; Laws/Reach shows that they agree.
use Rattle.std.specs.Prelude.{◌≡◌, Bool, cond, not, ◌&&◌, ◌||◌, List, ℕ, zero, suc, ◌+◌, ◌-◌, ◌<◌, ℤ, ltb, eqb}
use Rattle.plan.specs.Numbers.{kind_limit}
use Rattle.plan.specs.Lists.{nat_at, some}
use Rattle.plan.specs.declared.Plan.{Plan}
use Rattle.machine.specs.Entries.{sets}

-- "The due integrators (d = t)"
unfoldable pub is_due : List ℕ → ℕ → ℕ → Bool
is_due d t i = eqb (nat_at d i) t

-- command e is one "of tick t" and sets input j
abbrev pub sets_input : (p : Plan) (t j e : ℕ) → Bool
sets_input p t j e = sets p.commands.ticks p.commands.inputs t j e

unfoldable pub is_commanded : Plan → ℕ → ℕ → Bool
is_commanded p t j = some (sets_input p t j) p.counts.commands

-- ---- what an instant makes of who is due there. Of the laws those in Laws/Woken alone open these three.
-- who is woken: it counts as due, so it changes, is moved, and gets a new output
unfoldable pub woken : (due : ℕ → Bool) → ℕ → Bool
woken due i = due i

-- who gives its position as output in step 1; that value can bar the instant
unfoldable pub gives : (due : ℕ → Bool) → ℕ → Bool
gives due i = due i

-- where the instant puts each integrator, by its position there, x+s×(t−l)
unfoldable pub placed : (place : ℕ → ℤ) → ℕ → ℤ
placed place i = place i

-- The sources that change at tick t, by who is woken there: these integrators and the commanded inputs. Said here alone; what follows is over
-- any set of sources.
unfoldable pub changes_by : (p : Plan) (t : ℕ) (awake : ℕ → Bool) → ℕ → Bool
changes_by p t awake i = cond (ltb i p.counts.n) (awake i) (ltb i (p.counts.n + p.counts.m) && is_commanded p t (i - p.counts.n))

-- with the due ticks d
abbrev pub changes : (p : Plan) (d : List ℕ) (t : ℕ) → ℕ → Bool
changes p d t = changes_by p t (woken (is_due d t))

-- with a set of sources that change
module _ (p : Plan) (changed : ℕ → Bool) where
  -- Source i is one, or a node that depends on one, where only the first j nodes are looked at: "dependence is followed down through
  -- lower-numbered nodes". Kind 2 names nothing by B.
  unfoldable pub depends_with : (j i : ℕ) → Bool
  depends_with zero i = changed i
  depends_with (suc j) i =
      cond (eqb i (p.counts.n + p.counts.m + j))
      (depends_with j (nat_at p.nodes.a j) || (not (eqb (nat_at p.nodes.kinds j) kind_limit) && depends_with j (nat_at p.nodes.b j)))
      (depends_with j i)

  -- link e is integrator i's own, and names a source that changes or depends on one that does
  unfoldable pub link_reaches : (i e : ℕ) → Bool
  link_reaches i e = eqb (nat_at p.links.targets e) i && depends_with p.counts.k (nat_at p.links.sources e)

  -- "An integrator is reached if a link of its own names a due integrator, a commanded input, or a node that depends on one"
  unfoldable pub reached : ℕ → Bool
  reached i = some (link_reaches i) p.counts.links

-- those woken or reached at tick t, by who is due there
unfoldable pub touched : (p : Plan) (t : ℕ) (due : ℕ → Bool) → ℕ → Bool
touched p t due i = woken due i || reached p (changes_by p t (woken due)) i

-- ---- the same in document 01's words
-- integrator i is due at t, by its due tick
abbrev pub Woken : List ℕ → ℕ → ℕ → Type 0
Woken d t i = nat_at d i ≡ t

-- A source changes that is "a due integrator, a commanded input":
pub data Changed (p : Plan) (d : List ℕ) (t : ℕ) : ℕ → Type 0 where
  due : {i : ℕ} → i < p.counts.n → Woken d t i → Changed p d t i
  commanded : {i : ℕ} (j e : ℕ) → i ≡ p.counts.n + j → j < p.counts.m → e < p.counts.commands → nat_at p.commands.ticks e ≡ t → nat_at p.commands.inputs e ≡ j
      → Changed p d t i

module _ (p : Plan) (Change : ℕ → Type 0) where
  -- "or a node that depends on one", by A, or by B where its kind uses it
  pub data Depends : ℕ → Type 0 where
    itself : {i : ℕ} → Change i → Depends i
    by_a : {i : ℕ} (j : ℕ) → i ≡ p.counts.n + p.counts.m + j → j < p.counts.k → Depends (nat_at p.nodes.a j) → Depends i
    by_b : {i : ℕ} (j : ℕ) → i ≡ p.counts.n + p.counts.m + j → j < p.counts.k → (nat_at p.nodes.kinds j ≡ kind_limit → ⊥) → Depends (nat_at p.nodes.b j) → Depends i

  -- "a link of its own names" such a source
  pub data Reached : ℕ → Type 0 where
    link : {i : ℕ} (e : ℕ) → e < p.counts.links → nat_at p.links.targets e ≡ i → Depends (nat_at p.links.sources e) → Reached i
