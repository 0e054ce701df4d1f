-- Proof: the answers of calls that keep their contracts are those of the list. Assumes nothing.
use Rattle.std.specs.Prelude.{◌≡◌, refl, List, [], ◌∷◌, ◌++◌}
use Rattle.std.proofs.Common.{sym, ap, ◌∙◌}
use Rattle.plan.specs.Format.{plan_in}
use Rattle.plan.specs.declared.Plan.{Plan}
use Rattle.machine.specs.declared.State.{State}
use Rattle.calls.specs.Calls.{load_of}
use Rattle.calls.specs.Lists.{Call, answer_of, buffer_of, accepted_budget, after_calls, budget_sum, joined_bytes}
use Rattle.calls.specs.Sessions.{MadeCall, ContractHolds, Session, last_state, accepted_sum, written_bytes, calls_of, session_of}
use Rattle.calls.specs.Promises.Lists.{CallPromise, ListPromise}
use Rattle.calls.specs.Promises.Sessions.{SessionPromise, EverySession, SessionsExist}
use Rattle.calls.proofs.Proofs.Demand3.{demand_3}

-- what was answered, and the buffer, by the definitions of Lists.antt
module _ (st : State) (made : MadeCall) (kept : ContractHolds st made) where
  answered : made.answer ≡ answer_of st made.call
  unfolding answer_of
  answered = kept.answer

  left : made.buffer ≡ buffer_of st made.call
  unfolding buffer_of
  left = kept.buffer

same_state : (st : State) (made : List MadeCall) → Session st made → last_state st made ≡ after_calls st (calls_of made)
unfolding last_state after_calls calls_of
same_state st [] kept = refl
same_state st (m ∷ later) kept = same_state m.answer.state later kept.1 ∙ rw (answered st m kept.0)

same_sum : (st : State) (made : List MadeCall) → Session st made → accepted_sum made ≡ budget_sum st (calls_of made)
unfolding accepted_sum budget_sum calls_of accepted_budget
same_sum st [] kept = refl
same_sum st (m ∷ later) kept = rw (same_sum m.answer.state later kept.1, answered st m kept.0)

same_bytes : (st : State) (made : List MadeCall) → Session st made → written_bytes made ≡ joined_bytes st (calls_of made)
unfolding written_bytes joined_bytes calls_of
same_bytes st [] kept = refl
same_bytes st (m ∷ later) kept = rw (same_bytes m.answer.state later kept.1, left st m kept.0, answered st m kept.0)

-- two sessions with an equal sum are lists with an equal sum
equal_sums : (st : State) (made : List MadeCall) → Session st made → (others : List MadeCall) → Session st others → accepted_sum others ≡ accepted_sum made
    → budget_sum st (calls_of others) ≡ budget_sum st (calls_of made)
equal_sums st made ours others theirs e = sym (same_sum st others theirs) ∙ e ∙ same_sum st made ours

-- ---- a call of the session: those before it, its own contract, and its place in the list
front : (st : State) (earlier rest : List MadeCall) → Session st (earlier ++ rest) → Session st earlier
front st [] rest kept = tt
front st (m ∷ earlier) rest kept = (kept.0, front m.answer.state earlier rest kept.1)

kept_at : (st : State) (earlier : List MadeCall) (m : MadeCall) (later : List MadeCall) → Session st (earlier ++ (m ∷ later)) → ContractHolds (last_state st earlier) m
unfolding last_state
kept_at st [] m later kept = kept.0
kept_at st (e ∷ earlier) m later kept = kept_at e.answer.state earlier m later kept.1

calls_append : (earlier rest : List MadeCall) → calls_of (earlier ++ rest) ≡ calls_of earlier ++ calls_of rest
unfolding calls_of
calls_append [] rest = refl
calls_append (m ∷ earlier) rest = ap (λ calls. m.call ∷ calls) (calls_append earlier rest)

module _ (p : Plan) (st : State) (earlier : List MadeCall) (m : MadeCall) (later : List MadeCall) (kept : Session st (earlier ++ (m ∷ later)))
    (list : ListPromise p st (calls_of (earlier ++ (m ∷ later)))) where
  own : ContractHolds (last_state st earlier) m
  own = kept_at st earlier m later kept

  call_at : CallPromise p (last_state st earlier) m.call m.answer m.buffer
  unfolding calls_of
  call_at =
      rw (answered (last_state st earlier) m own, left (last_state st earlier) m own, same_state st earlier (front st earlier (m ∷ later) kept))
      (list.each (calls_of earlier) m.call (calls_of later) (calls_append earlier (m ∷ later)))

pub every-session : EverySession
every-session file loaded e accepted made kept = rw e (go (rw e at accepted) (rw e at kept))
  where
    go : (load_of file).number ≡ 0 → Session (load_of file).state made → SessionPromise (plan_in file) (load_of file).state made
    go ok kept =
        let st = (load_of file).state in
        let list = demand_3 file ok (calls_of made) in
        let state = same_state st made kept in let sum = same_sum st made kept in let bytes = same_bytes st made kept in
        let equal = equal_sums st made kept in
        record {
          state = rw (state, sum) list.state;
          bytes = rw (bytes, sum) list.bytes;
          updates = rw (state, sum) list.updates;
          counted = rw (state, sum) list.counted;
          alike = λ others theirs e.
              rw (same_state st others theirs, state, same_bytes st others theirs, bytes) (list.alike (calls_of others) (equal others theirs e));
          fewest = λ others theirs lazy e. rw (same_state st others theirs, state) (list.fewest (calls_of others) lazy (equal others theirs e));
          most = λ others theirs eager e. rw (same_state st others theirs, state) (list.most (calls_of others) eager (equal others theirs e));
          each = λ earlier m later is. call_at (plan_in file) st earlier m later (rw is at kept) (rw is at list);
          position =
              λ i answer is known. let at = list.state.position i known in (rw (is, state, at), rw (is, state, sum, at));
          no_position = λ i answer is above. let at = list.state.no_position i above in (rw (is, state, at), rw (is, state, at));
          same_state = state;
          same_sum = sum;
          same_bytes = bytes;
          list = list;
        }

-- ---- every list has its session
made_session : (st : State) (calls : List Call) → Session st (session_of st calls)
unfolding session_of answer_of buffer_of
made_session st [] = tt
made_session st (c ∷ calls) = (record { answer = refl; buffer = refl }, made_session (answer_of st c).state calls)

made_calls : (st : State) (calls : List Call) → calls_of (session_of st calls) ≡ calls
unfolding session_of calls_of
made_calls st [] = refl
made_calls st (c ∷ calls) = ap (λ cs. c ∷ cs) (made_calls (answer_of st c).state calls)

pub sessions_exist : SessionsExist
sessions_exist st calls = record { session = made_session st calls; same_calls = made_calls st calls }
