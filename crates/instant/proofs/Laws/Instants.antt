-- Laws: one instant as the code takes it, step by step, is the machine's. Assumes nothing.
use Rattle.std.specs.Prelude.{◌≡◌, Bool, true, false, List, ℕ, zero, ◌+◌, ◌-◌, ◌*◌, ◌/◌, ◌%◌, ◌^◌, ◌≤◌, ◌<◌, ℤ, pos, ltb, length}
use Rattle.std.proofs.Math.Path.{refl, sym, ap}
use Rattle.std.proofs.Common.{ap₂, ◌∙◌, mul-le-mul_right, arith, ltb-true, ltb-false, Fits}
use Rattle.std.specs.Int.{w64}
use Rattle.integers.specs.Parts.{∣◌∣}
use Rattle.bitset.specs.Mask.{has, mask_of, each, union_shifted}
use Rattle.bitset.specs.Counts.{count_of}
use Rattle.bitset.proofs.Laws.Bits.{mask_of_lt, mask_of_or, mask_of_ext}
use Rattle.bitset.proofs.Laws.Counts.{count_of_mask, count_of_le}
use Rattle.plan.specs.Numbers.{M}
use Rattle.plan.specs.Lists.{nat_at, int_at}
use Rattle.plan.specs.Rules.{PlanRules}
use Rattle.plan.proofs.Laws.CountLimits.{CountLimits, count-limits}
use Rattle.plan.proofs.Laws.Rows.{length_row, row_unused}
use Rattle.plan.specs.declared.Plan.{Plan}
use Rattle.machine.specs.Values.{value_with, value_of}
use Rattle.machine.specs.Next.{next_command}
use Rattle.machine.specs.Held.{held_of, inputs_then}
use Rattle.machine.specs.Reach.{is_due, woken, gives, placed, changes, depends_with, reached, touched}
use Rattle.machine.specs.Instant.{position_at, moves, Outcome, outputs_by, figures_after, outcome, instant_by, next_tick_of, instant, events_of}
use Rattle.machine.specs.Sound.{RunningWidths}
use Rattle.machine.proofs.Laws.SoundClauses.{SoundRunning}
use Rattle.machine.proofs.Laws.SoundTest.{words_clauses}
use Rattle.machine.proofs.Laws.Next.{tick-command}
use Rattle.machine.proofs.Laws.Held.{input-size}
use Rattle.machine.proofs.Laws.Woken.{woken_is, gives_is, placed_is}
use Rattle.machine.proofs.Laws.Inputs.{output-value, input-value}
use Rattle.machine.proofs.Laws.Values.{integrator-value, input-source}
use Rattle.machine.proofs.Laws.InstantFigures.{x_then}
use Rattle.machine.proofs.Laws.OutcomeEvents.{outcome_is}
use Rattle.machine.proofs.Laws.Unreached.{source_kept}
use Rattle.machine.proofs.Laws.Soundness.{Takes, Lawful, takes_next, lawful_then}
use Rattle.machine.specs.declared.Motion.{Motion}
use Rattle.machine.specs.declared.Running.{Running}
use Rattle.machine.specs.declared.Engine.{Engine}
use Rattle.machine.specs.declared.Engine.TheVariants.{Lazy, Eager}
use Rattle.values.specs.Sources.{values_of, outputs_in, inputs_in, node_step, NodesReady}
use Rattle.values.proofs.Laws.SourceValues.{nodes-ready, values_length, values_at, values-sized}
use Rattle.values.proofs.Laws.ReadOut.{outputs_read, inputs_read}
use Rattle.values.proofs.Laws.DependentNodes.{dependent_nodes}
use Rattle.timing.specs.Status.{DuePositionsReady}
use Rattle.timing.proofs.Laws.Statuses.{given_ready}
use Rattle.reach.specs.Table.{entries_of}
use Rattle.reach.proofs.Laws.Reached as reaching
use Rattle.steps.specs.Entries.{after_entries, after_entries_from, EntriesInRange}
use Rattle.steps.specs.Outputs.{after_output}
use Rattle.steps.specs.Events.{events_in, EventsReady}
use Rattle.moves.specs.Motion.{motion_of, after_move, AllMovable}
use Rattle.instant.specs.Instants.{running_of, moved_set, InstantReady}
use Rattle.steps.proofs.Laws.Commands.{CommandsObeyed, commands_obeyed, commands_in_range}
use Rattle.steps.proofs.Laws.Outputs.{outputs_are, values_full, values_kept}
use Rattle.steps.proofs.Laws.EventBytes.{events_are, events-ready}
use Rattle.moves.proofs.Laws.Moves.{Stored, own-stored, all_movable, moved-figures}

-- below n an integrator, from n on an input: what holds of both kinds of source holds of all
source_cases : (n m i : ℕ) (P : ℕ → Type 0) → i < n + m → ((k : ℕ) → k < n → P k) → ((j : ℕ) → j < m → P (n + j)) → P i
source_cases n m i P h f g = go (ltb i n) refl
  where
    go : (b : Bool) → ltb i n ≡ b → P i
    go true e = f i (ltb-true i n e)
    go false e = let l = ltb-false i n e in let same : n + (i - n) ≡ i = omega arith in rw same at (g (i - n) (omega arith))

module _ (p : Plan) (r : Running) {t due : ℕ} {ranges reach : List ℕ} {values : List ℤ} {at size : ℕ}
    (ready : InstantReady p ranges reach t due r values at size) where
  shaped : RunningWidths r
  shaped = ready.shaped

  sound : SoundRunning p r
  sound = words_clauses p r ready.sound

  rules : PlanRules p
  rules = sound.plan

  pub limits : CountLimits p
  limits = count-limits p rules.counts

  takes : Takes p r t
  takes = rw ready.tick (takes_next p r sound ready.paused)

  abbrev o : Outcome
  o = outcome p r t

  lawful : Lawful p r t o
  lawful = lawful_then p r sound t takes

  abbrev q : List ℤ
  q = o.held.q

  abbrev u : List ℤ
  u = o.held.inputs

  -- ---- who is woken, gives its position as output and changes: those that are due, and the commanded inputs
  abbrev awake : ℕ → Bool
  awake = woken (is_due r.d t)

  abbrev changing : ℕ → Bool
  changing = changes p r.d t

  woken-set : due ≡ mask_of awake p.counts.n
  woken-set = ready.due-set ∙ mask_of_ext _ _ p.counts.n (λ i h. sym (woken_is (is_due r.d t) i))

  given_set : due ≡ mask_of (gives (is_due r.d t)) p.counts.n
  given_set = ready.due-set ∙ mask_of_ext _ _ p.counts.n (λ i h. sym (gives_is (is_due r.d t) i))

  -- and each integrator is at its position
  at_position : (i : ℕ) → i < p.counts.n → o.x i ≡ position_at r t i
  at_position i h = x_then p limits awake (placed (position_at r t)) r.q i h ∙ placed_is (position_at r t) i

  -- ---- before
  pub due_below : due < 2 ^ p.counts.n
  due_below = rw ready.due-set (mask_of_lt (is_due r.d t) p.counts.n)

  full : length values ≡ 64
  full = rw ready.values_are (values_length p r.q r.inputs)

  old_at : (i : ℕ) → i < p.counts.n + p.counts.m + p.counts.k → int_at values i ≡ value_of p r.q r.inputs i
  old_at i h = rw ready.values_are (values_at p r.q r.inputs rules i h)

  old_output : (i : ℕ) → i < p.counts.n → int_at values i ≡ int_at r.q i
  old_output i h = old_at i (omega arith) ∙ integrator-value p r.q r.inputs i h

  old_input : (j : ℕ) → j < p.counts.m → int_at values (p.counts.n + j) ≡ int_at r.inputs j
  old_input j h = old_at (p.counts.n + j) (omega arith) ∙ input-source p r.q r.inputs j h

  old_sized : (i : ℕ) → ∣ int_at values i ∣ ≤ M
  old_sized =
      rw ready.values_are
      (values-sized p r.q r.inputs rules sound.held.outputs (input-size sound.held))

  -- ---- 6. the counts stay far below 2^64
  pub instants_fit : Fits w64 (r.clocks.instants + 1)
  instants_fit = omega (arith, sound.held.instants, sound.clock, rules.horizon)

  pub updates_fit : (moved : ℕ → Bool) {grown : ℕ} → grown ≡ count_of moved 32 → Fits w64 (r.clocks.updates + grown)
  updates_fit moved e =
      let most : r.clocks.updates ≤ 32 * r.clocks.instants = omega (arith, sound.updates, mul-le-mul_right r.clocks.instants limits.n) in
      rw e (omega (arith, sound.held.instants, sound.clock, rules.horizon, count_of_le moved 32))

  -- ---- 1. and 2.
  pub outputs_ready : DuePositionsReady t due r.x r.s r.l
  outputs_ready = given_ready p r sound ready.tick given_set

  pub commands-ready : EntriesInRange p.counts.n p.counts.commands p.commands.inputs r.clocks.next
  commands-ready = commands_in_range p rules r.clocks.next r.clocks.clock sound.held.next.command

  module _ {v1 : List ℤ} (output : v1 ≡ each (after_output t r.x r.s r.l) (has due) 32 values) {v2 : List ℤ} {commanded next : ℕ}
      (command : after_entries v2 commanded next
      ≡ after_entries_from p.counts.n p.commands.ticks p.commands.inputs p.commands.values t r.clocks.next
      (p.counts.commands - r.clocks.next) (after_entries v1 0 r.clocks.next)) where
    full_then : length v1 ≡ 64
    full_then = values_full p limits r t (is_due r.d t) due ready.due-set values full v1 output

    kept_at : (i : ℕ) → p.counts.n ≤ i → int_at v1 i ≡ int_at values i
    kept_at = values_kept p limits r t (is_due r.d t) due ready.due-set values full v1 output

    next-ahead : r.clocks.next < p.counts.commands → t ≤ nat_at p.commands.ticks r.clocks.next
    unfolding next_tick_of
    next-ahead h = omega (arith, ready.tick, tick-command p r.d (held_of r) h)

    done : CommandsObeyed p r.inputs v1 t (after_entries v2 commanded next)
    done =
        commands_obeyed p rules r.inputs v1 r.clocks.clock t r.clocks.next
        (record {
          width = full_then;
          inputs = λ j h. kept_at (p.counts.n + j) (omega arith) ∙ old_input j h;
          next_is = sound.held.next.command;
          later = takes.after;
          ahead = next-ahead;
        })
        command

    next_then : next ≡ next_command p t
    next_then = done.next_is

    -- what `values` holds now
    output_at_lem : (i : ℕ) → i < p.counts.n → int_at v2 i ≡ int_at q i
    output_at_lem i h =
        done.outputs_kept i h ∙ outputs_are p limits r t due ready.due-set values full v1 output old_output i h

    input_at_lem : (j : ℕ) → j < p.counts.m → int_at v2 (p.counts.n + j) ≡ int_at u j
    input_at_lem = done.inputs_are

    node_at_lem : (i : ℕ) → p.counts.n + p.counts.m ≤ i → int_at v2 i ≡ int_at values i
    node_at_lem i h = done.nodes_kept_lem i h ∙ kept_at i (omega arith)

    source_at : (i : ℕ) → i < p.counts.n + p.counts.m → int_at v2 i ≡ value_with p q u zero i
    source_at i h =
        source_cases p.counts.n p.counts.m i (λ k. int_at v2 k ≡ value_with p q u zero k) h
        (λ k l. output_at_lem k l ∙ sym (output-value p q u k l)) (λ j l. input_at_lem j l ∙ sym (input-value p q u j l))

    sized : (i : ℕ) → ∣ int_at v2 i ∣ ≤ M
    sized i = go (ltb i (p.counts.n + p.counts.m)) refl
      where
        go : (b : Bool) → ltb i (p.counts.n + p.counts.m) ≡ b → ∣ int_at v2 i ∣ ≤ M
        go true e =
            source_cases p.counts.n p.counts.m i (λ k. ∣ int_at v2 k ∣ ≤ M) (ltb-true i (p.counts.n + p.counts.m) e)
            (λ k l. rw (output_at_lem k l) (lawful.held.outputs k l))
            (λ j l. rw (input_at_lem j l) (input-size lawful.held j l))
        go false e = rw (node_at_lem i (ltb-false i (p.counts.n + p.counts.m) e)) (old_sized i)

    pub nodes-ready_then : NodesReady p.nodes v2 (p.counts.n + p.counts.m) p.counts.k
    nodes-ready_then = nodes-ready p rules v2 sized

    -- ---- 3. and 4.
    module _ {changed nodes reached-set : ℕ} (changed-is : changed ≡ union_shifted due commanded p.counts.n)
        (reached-is : reached-set ≡ entries_of reach changed % 2 ^ 32) (nodes-is : nodes ≡ entries_of reach changed / 2 ^ 32) where
      changed_then : changed ≡ mask_of changing (p.counts.n + p.counts.m)
      changed_then = changed-is ∙ reaching.joined_changes p t awake due commanded woken-set done.commanded_are

      nodes_then : nodes ≡ mask_of (λ j. depends_with p changing p.counts.k (p.counts.n + p.counts.m + j)) p.counts.k
      nodes_then = nodes-is ∙ rw ready.reach_is (reaching.dependent_mask p rules changing (reaching.changes_inside p t awake) changed changed_then)

      reached_then : reached-set ≡ mask_of (reached p changing) p.counts.n
      reached_then = reached-is ∙ rw ready.reach_is (reaching.reached_mask p rules changing (reaching.changes_inside p t awake) changed changed_then)

      pub nodes-below : nodes < 2 ^ p.counts.k
      nodes-below = rw nodes_then (mask_of_lt _ p.counts.k)

      module _ {v3 : List ℤ} (worked : v3 ≡ each (node_step p.nodes (p.counts.n + p.counts.m)) (has nodes) 32 v2) where
        values_then : v3 ≡ values_of p q u
        values_then =
            worked
            ∙ dependent_nodes p rules changing q u r.q r.inputs
            (source_kept p limits t (is_due r.d t) (position_at r t) (held_of r)) v2 (done.same_length ∙ full_then) source_at
            (λ i h. node_at_lem i h ∙ ap (λ vs. int_at vs i) ready.values_are) nodes nodes_then

        outputs_then : outputs_in p.counts.n v3 ≡ q
        unfolding outputs_by
        outputs_then =
            rw values_then
            (outputs_read p rules q u (length_row (pos 0) 32 p.counts.n _) (λ i h. row_unused (pos 0) 32 p.counts.n _ i h))

        inputs_then_lem : inputs_in p.counts.n p.counts.m v3 ≡ u
        unfolding inputs_then
        inputs_then_lem =
            rw values_then
            (inputs_read p rules q u (length_row (pos 0) 8 p.counts.m _) (λ j h. row_unused (pos 0) 8 p.counts.m _ j h))

        pub values_by-figures : v3 ≡ values_of p (outputs_in p.counts.n v3) (inputs_in p.counts.n p.counts.m v3)
        values_by-figures = values_then ∙ ap₂ (values_of p) (sym outputs_then) (sym inputs_then_lem)

        value_then_lem : (i : ℕ) → i < p.counts.n + p.counts.m + p.counts.k → int_at v3 i ≡ value_of p q u i
        value_then_lem i h = rw values_then (values_at p q u rules i h)

        sized_then : (i : ℕ) → ∣ int_at v3 i ∣ ≤ M
        sized_then =
            rw values_then
            (values-sized p q u rules lawful.held.outputs (input-size lawful.held))

        first_then : (i : ℕ) → i < p.counts.n + p.counts.m → int_at v3 i ≡ value_with p q u zero i
        first_then i h =
            source_cases p.counts.n p.counts.m i (λ k. int_at v3 k ≡ value_with p q u zero k) h
            (λ k l. value_then_lem k (omega arith) ∙ integrator-value p q u k l ∙ sym (output-value p q u k l))
            (λ j l. value_then_lem (p.counts.n + j) (omega arith) ∙ input-source p q u j l ∙ sym (input-value p q u j l))

        -- ---- events
        pub events-ready_then : EventsReady t changed v3 at size
        events-ready_then = events-ready p rules t changing q u v3 changed changed_then first_then at size ready.room (λ i h. sized_then i)

        pub events_then : events_in t changed v3 ≡ events_of p r
        unfolding events_of
        events_then =
            events_are p rules t changing q u v3 changed changed_then first_then
            ∙ sym (outcome_is p t (is_due r.d t) (position_at r t) (held_of r)) ∙ rw ready.tick

        -- ---- 5. and 6.
        module _ (engine : Engine) {moved : ℕ} (moved-is : moved ≡ moved_set engine p.counts.n due reached-set) where
          moved_then : moved ≡ mask_of (moves p engine r.d t) p.counts.n
          unfolding moved_set moves touched
          moved_then = moved-is ∙ go engine
            where
              go : (e : Engine) → moved_set e p.counts.n due reached-set ≡ mask_of (moves p e r.d t) p.counts.n
              go Lazy = rw (woken-set, reached_then) (mask_of_or awake (reached p changing) p.counts.n)
              go Eager = refl

          stored : Stored p r t o (moves p engine r.d t) (motion_of r)
          stored = own-stored p r sound shaped t (omega (arith, takes.after)) takes.least o at_position (moves p engine r.d t)

          pub moves-ready : AllMovable p ranges t v3 moved (motion_of r)
          moves-ready =
              rw (ready.ranges_are, moved_then)
              (all_movable p r sound t o lawful v3 value_then_lem (moves p engine r.d t) (motion_of r) stored sized_then)

          module _ {m : Motion}
              (move : m ≡ each (after_move p ranges t v3) (has moved) 32 (motion_of r))
              {grown : ℕ} (counted : grown ≡ count_of (has moved) 32) where
            count_then : grown ≡ count_of (moves p engine r.d t) p.counts.n
            count_then = counted ∙ rw moved_then (count_of_mask (moves p engine r.d t) p.counts.n 32 limits.n)

            abbrev then : Running
            then = instant_by p r t (moves p engine r.d t)

            figures_then_lem : m ≡ motion_of then
            figures_then_lem =
                move
                ∙ rw (ready.ranges_are, moved_then)
                (moved-figures p r sound t o lawful v3 value_then_lem (moves p engine r.d t) (motion_of r) stored _)

            pub running_then : ◌≡◌ {A = Running}
                (running_of p.counts m v3 (record { clock = t; next = next; instants = r.clocks.instants + 1; updates = r.clocks.updates + grown }))
                (instant p engine r)
            unfolding instant figures_after
            running_then =
                rw (figures_then_lem, outputs_then, inputs_then_lem, next_then, count_then, ready.tick)
