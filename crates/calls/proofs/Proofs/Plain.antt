-- Proof: a state which agrees with the plain machine is the same as it in everything that is compared, and two such states are alike.
-- Assumes nothing.
use Rattle.std.specs.Prelude.{◌≡◌, refl, Bool, true, false, cond, List, ℕ, pos, ltb}
use Rattle.std.proofs.Common.{sym, ◌∙◌}
use Rattle.std.proofs.Math.Path.{ap}
use borrow.Author.Tests.{ltb-true, ltb-false, lt-ltb, le-ltb}
use Rattle.plan.specs.Lists.{int_at}
use Rattle.plan.specs.declared.Plan.{Plan}
use Rattle.machine.specs.Plain.{Plain}
use Rattle.machine.proofs.Laws.SoundClauses.{SoundRunning}
use Rattle.machine.proofs.Laws.Agreement.{Agrees, same_status, place_of}
use Rattle.machine.proofs.Laws.SoundTest.{test_clauses}
use Rattle.machine.specs.declared.Running.{Running}
use Rattle.machine.specs.declared.State.{State}
use Rattle.calls.specs.Calls.{position_number, positioned_of}
use Rattle.calls.specs.Promises.Lists.{SameAsPlain, EndAlike}
use Rattle.calls.proofs.Proofs.Schedule.{at}

module _ (p : Plan) (r : Running) (ok : SoundRunning p r) where
  pub same_as_plain : (m : Plain) → Agrees p r m → SameAsPlain p (at p r) m
  unfolding positioned_of position_number
  same_as_plain m a =
      record {
        plan = refl;
        q = ap (λ h. h.q) a.forward.held;
        s = a.forward.s;
        d = a.forward.d;
        inputs = ap (λ h. h.inputs) a.forward.held;
        clock = a.clock;
        next = ap (λ h. h.next) a.forward.held;
        instants = ap (λ h. h.instants) a.forward.held;
        status = same_status p r ok m a.forward;
        position = λ i h. rw ((test_clauses (at p r)).1 ok, lt-ltb i p.counts.n h, place_of p r m a i h);
        no_position = λ i h. rw ((test_clauses (at p r)).1 ok, le-ltb i p.counts.n h);
      }

-- what the position call answers is settled by the plain machine
module _ (p : Plan) (st : State) (m : Plain) (same : SameAsPlain p st m) (i : ℕ) where
  position-settled : ((positioned_of st i).number ≡ cond (ltb i p.counts.n) 0 14) × ((positioned_of st i).value ≡ cond (ltb i p.counts.n) (int_at m.x i) (pos 0))
  position-settled = go (ltb i p.counts.n) refl
    where
      go : (b : Bool) → ltb i p.counts.n ≡ b → ((positioned_of st i).number ≡ cond b 0 14) × ((positioned_of st i).value ≡ cond b (int_at m.x i) (pos 0))
      go true e = let at = same.position i (ltb-true i p.counts.n e) in (rw at, rw at)
      go false e = let at = same.no_position i (ltb-false i p.counts.n e) in (rw at, rw at)

module _ (p : Plan) (m : Plain) (one other : State) (a : SameAsPlain p one m) (b : SameAsPlain p other m) where
  pub end-alike : (bytes-of-one bytes-of-other : List ℕ) → bytes-of-one ≡ bytes-of-other → EndAlike one other bytes-of-one bytes-of-other
  end-alike bytes-of-one bytes-of-other e =
      record {
        plan = a.plan ∙ sym b.plan;
        bytes = e;
        q = a.q ∙ sym b.q;
        s = a.s ∙ sym b.s;
        d = a.d ∙ sym b.d;
        inputs = a.inputs ∙ sym b.inputs;
        clock = a.clock ∙ sym b.clock;
        next = a.next ∙ sym b.next;
        instants = a.instants ∙ sym b.instants;
        status = rw (a.plan, b.plan) (a.status ∙ sym b.status);
        position_number_lem = λ i. (position-settled p one m a i).0 ∙ sym (position-settled p other m b i).0;
        position = λ i. (position-settled p one m a i).1 ∙ sym (position-settled p other m b i).1;
      }
