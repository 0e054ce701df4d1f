-- Laws: the clauses of a sound state's running figures in the order in which the code tests them, and what its tests ask. Assumes nothing.
use Rattle.std.specs.Prelude.{◌≡◌, refl, Bool, true, ◌&&◌, List, [], ◌∷◌, ℕ, zero, suc, ◌*◌, ◌≤◌, ◌<◌, ℤ, pos, leb, eqb}
use Rattle.std.proofs.Common.{◌∙◌, mul-le-mul_right, arith, Fits}
use Rattle.std.proofs.Math.Logic.Iff
use Rattle.std.specs.Int.{w64}
use borrow.Author.Tests.{leb-true}
use Rattle.integers.specs.Parts.{∣◌∣}
use Rattle.integers.specs.Range.{within}
use Rattle.integers.proofs.Laws.Range.{within_true}
use Rattle.plan.specs.Numbers.{M}
use Rattle.plan.specs.Lists.{nat_at, int_at, row, every}
use Rattle.plan.specs.Rules.{PlanRules}
use Rattle.plan.specs.Unused.{nats_zero_from, ints_zero_from}
use Rattle.plan.specs.declared.Plan.{Plan}
use Rattle.plan.proofs.Laws.CountLimits.{count-limits}
use Rattle.plan.proofs.Laws.Rows.{row_at}
use Rattle.plan.proofs.Laws.Searches.{every_true}
use Rattle.plan.proofs.Laws.TestMeanings.{Means, both}
use Rattle.machine.specs.Due.{upper_level, lower_level, due_of}
use Rattle.machine.specs.Next.{next_command}
use Rattle.machine.specs.Held.{held_of, slope_of}
use Rattle.machine.specs.SoundTest.{held_sound, moved_unused_zero, integrator_sound, running_sound}
use Rattle.machine.proofs.Laws.Held.{slope-within}
use Rattle.machine.proofs.Laws.Levels.{levels-apart}
use Rattle.machine.specs.declared.Running.{Running}
use Rattle.timing.proofs.Laws.Dues.{level-ready}
use Rattle.unusedentries.specs.Entries.{running_unused_zero_by}
use Rattle.soundintegrators.specs.Figures.{figures_sound, IntegratorsReady}
use Rattle.soundintegrators.proofs.Laws.OneIntegrator.{figures_in}
use Rattle.unusedentries.proofs.Laws.EarlyReturns.{passes, same_tests}

every_same : (f g : ℕ → Bool) (n : ℕ) → ((i : ℕ) → i < n → f i ≡ g i) → every f n ≡ every g n
unfolding every
every_same f g zero e = refl
every_same f g (suc n) e = rw (every_same f g n (λ i h. e i (omega arith)), e n (omega arith))

itself : (b : Bool) → Means b (b ≡ true)
itself b = Iff.rfl

module _ (p : Plan) (r : Running) where
  abbrev pub output_at : ℕ → Bool
  output_at i = within M (int_at r.q i)

  abbrev pub input_at : ℕ → Bool
  input_at j = within M (int_at r.inputs j)

  -- the clauses of integrator i
  abbrev pub figures_at : ℕ → Bool
  figures_at i =
      figures_sound (upper_level p r.q i) (lower_level p r.q i) (slope_of p (held_of r) i) r.clocks.clock
      (int_at r.x i) (int_at r.s i) (nat_at r.l i) (nat_at r.d i)

  integrators_are : every (integrator_sound p r) p.counts.n ≡ every figures_at p.counts.n
  unfolding integrator_sound figures_sound due_of
  integrators_are = every_same (integrator_sound p r) figures_at p.counts.n (λ i h. refl)

  -- ---- the order of the code
  abbrev pub clauses : List Bool
  clauses =
      leb r.clocks.clock p.horizon
      ∷ every output_at p.counts.n
      ∷ every input_at p.counts.m
      ∷ every figures_at p.counts.n
      ∷ eqb r.clocks.next (next_command p r.clocks.clock)
      ∷ leb r.clocks.instants r.clocks.clock
      ∷ leb r.clocks.updates (p.counts.n * r.clocks.instants)
      ∷ running_unused_zero_by p.counts.n p.counts.m r.x r.q r.s r.l r.d r.inputs
      ∷ []

  pub running_tests : passes clauses 8 ≡ running_sound p r
  unfolding passes every running_sound held_sound moved_unused_zero running_unused_zero_by
  running_tests =
      rw integrators_are
      (in_order (leb r.clocks.clock p.horizon) (every output_at p.counts.n) (every input_at p.counts.m) (every figures_at p.counts.n)
      (eqb r.clocks.next (next_command p r.clocks.clock)) (leb r.clocks.instants r.clocks.clock)
      (leb r.clocks.updates (p.counts.n * r.clocks.instants))
      (ints_zero_from p.counts.n r.x) (ints_zero_from p.counts.n r.q) (ints_zero_from p.counts.n r.s)
      (nats_zero_from p.counts.n r.l) (nats_zero_from p.counts.n r.d) (ints_zero_from p.counts.m r.inputs))
    where
      -- the code's order and the definition's
      in_order : (clock outputs inputs figures next instants updates x q s l d u : Bool)
          → (clock && outputs && inputs && figures && next && instants && updates && (x && q && s && l && d && u))
          ≡ (clock && figures && (outputs && inputs && next && instants && q && u) && updates && (x && s && l && d))
      in_order clock outputs inputs figures next instants updates x q s l d u =
          let values = both (both (itself clock) (itself outputs)) (itself inputs) in
          let counts = both (both (both (both values (itself figures)) (itself next)) (itself instants)) (itself updates) in
          let first = both counts (both (both (both (both (both (itself x) (itself q)) (itself s)) (itself l)) (itself d)) (itself u)) in
          let held = both (both (both (both (both (itself outputs) (itself inputs)) (itself next)) (itself instants)) (itself q)) (itself u) in
          let moved = both (both (both (itself x) (itself s)) (itself l)) (itself d) in
          let then = both (both (both (both (itself clock) (itself figures)) held) (itself updates)) moved in
          same_tests first then (
            (λ t. let c = t.0 in let w = t.1 in (
              ((((c.0.0.0.0.0.0, c.0.0.0.1), (((((c.0.0.0.0.0.1, c.0.0.0.0.1), c.0.0.1), c.0.1), w.0.0.0.0.1), w.1)), c.1)),
              (((w.0.0.0.0.0, w.0.0.0.1), w.0.0.1), w.0.1),
            )),
            (λ t. let c = t.0 in let h = c.0.1 in let w = t.1 in (
              ((((((c.0.0.0, h.0.0.0.0.0), h.0.0.0.0.1), c.0.0.1), h.0.0.0.1), h.0.0.1), c.1),
              (((((w.0.0.0, h.0.1), w.0.0.1), w.0.1), w.1), h.1),
            )),
          )

  -- ---- what testing the integrators asks, once the clock, the outputs and the inputs have passed
  abbrev pub slopes : List ℤ
  slopes = row (pos 0) 32 p.counts.n (slope_of p (held_of r))

  module _ (rules : PlanRules p) where
    slope_at : (i : ℕ) → i < p.counts.n → int_at slopes i ≡ slope_of p (held_of r) i
    slope_at i h = row_at (pos 0) 32 p.counts.n (slope_of p (held_of r)) i (count-limits p rules.counts).n h

    module _ (outputs : every output_at p.counts.n ≡ true) (inputs : every input_at p.counts.m ≡ true) where
      pub output-size : (i : ℕ) → i < p.counts.n → ∣ int_at r.q i ∣ ≤ M
      output-size i h = (within_true M (int_at r.q i)).0 ((every_true output_at p.counts.n).0 outputs i h)

      pub input-size : (j : ℕ) → j < p.counts.m → ∣ int_at r.inputs j ∣ ≤ M
      input-size j h = (within_true M (int_at r.inputs j)).0 ((every_true input_at p.counts.m).0 inputs j h)

      pub figures-ready : leb r.clocks.clock p.horizon ≡ true → IntegratorsReady p.counts.n p.integrators.quanta slopes r.clocks.clock r.q
      unfolding upper_level lower_level
      figures-ready clock i h =
          let rule = rules.integrators i h in record {
            level = level-ready p r.q i rule (output-size i h);
            figures = rw (slope_at i h) (
                record {
                  early = omega (arith, leb-true r.clocks.clock p.horizon clock, rules.horizon.1);
                  apart = levels-apart p r.q i rule;
                  slow = omega (arith, slope-within p rules (held_of r) output-size input-size i);
                });
          }

    -- ---- what the comparisons of instants and updates ask
    pub clock_fits : leb r.clocks.clock p.horizon ≡ true → Fits w64 r.clocks.clock
    clock_fits clock = omega (arith, leb-true r.clocks.clock p.horizon clock, rules.horizon.1)

    pub updates_fit : leb r.clocks.clock p.horizon ≡ true → leb r.clocks.instants r.clocks.clock ≡ true → Fits w64 (p.counts.n * r.clocks.instants)
    updates_fit clock instants =
        let few = mul-le-mul_right r.clocks.instants (count-limits p rules.counts).n in
        omega (arith, leb-true r.clocks.clock p.horizon clock, leb-true r.clocks.instants r.clocks.clock instants, rules.horizon.1)

    -- the test by the slopes that the code has worked out
    pub figures_tested : {by : List ℤ} {found : Bool} → by ≡ slopes
        → found ≡ every (figures_in p.integrators.quanta by r.clocks.clock r.x r.q r.s r.l r.d) p.counts.n
        → found ≡ every figures_at p.counts.n
    unfolding upper_level lower_level
    figures_tested e f = rw e at f ∙ every_same _ figures_at p.counts.n (λ i h. rw (slope_at i h))
