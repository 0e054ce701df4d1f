-- Proof: the number of a call that takes a state: what 0 says of the state and the arguments, and which number is given where. Assumes
-- nothing.
use Rattle.std.specs.Prelude.{◌≡◌, refl, Bool, true, false, cond, ℕ, ◌≤◌, ◌<◌, leb, ltb, eqb}
use Rattle.std.proofs.Common.{arith}
use borrow.Author.Tests.{leb-true, ltb-true, eqb-true}
use Rattle.plan.specs.Encoding.{file_length}
use Rattle.plan.proofs.Laws.TestMeanings.{means_false}
use Rattle.machine.specs.Runs.{room_of}
use Rattle.machine.specs.Sound.{Sound}
use Rattle.machine.specs.SoundTest.{is_sound}
use Rattle.machine.proofs.Laws.SoundTest.{sound_means}
use Rattle.machine.specs.declared.State.{State}
use Rattle.calls.specs.Calls.{write_number, run_number_if_sound, run_number, position_number}

-- a figure of an accepted call, or what stands for it in a declined one
pub accept-cases {ℓ} : {A : Type ℓ} (P : A → Type 0) (number : ℕ) {x y : A} → (number ≡ 0 → P x) → P y → P (cond (eqb number 0) x y)
accept-cases P number {x} {y} accepted declined = go (eqb number 0) refl
  where
    go : (b : Bool) → eqb number 0 ≡ b → P (cond b x y)
    go true e = accepted (eqb-true number 0 e)
    go false e = declined

-- a figure of an accepted call, else 0
pub figure_most : (number : ℕ) {x : ℕ} (k : ℕ) → (number ≡ 0 → x ≤ k) → cond (eqb number 0) x 0 ≤ k
figure_most number k h = accept-cases (λ x. x ≤ k) number h (omega arith)

-- what is not declined passes its test
passes : (b : Bool) {x n : ℕ} → 0 < n → cond b x n ≡ 0 → (b ≡ true) × (x ≡ 0)
passes true h e = (refl, e)
passes false h e = absurd (omega arith)

-- a choice between two numbers is not above both
most : (b : Bool) {x y k : ℕ} → x ≤ k → y ≤ k → cond b x y ≤ k
most true h l = h
most false h l = l

module _ (st : State) where
  pub unsound_test : (Sound st → ⊥) → is_sound st ≡ false
  unsound_test = means_false (sound_means st).0

  -- ---- the writer: 10, 13
  pub write-most : (room : ℕ) → write_number st room ≤ 14
  unfolding write_number
  write-most room = most (is_sound st) (most (leb (file_length st.plan) room) (omega arith) (omega arith)) (omega arith)

  pub write_zero : (room : ℕ) → write_number st room ≡ 0 → Sound st × (file_length st.plan ≤ room)
  unfolding write_number
  write_zero room e =
      let a = passes (is_sound st) (omega arith) e in let b = passes (leb (file_length st.plan) room) (omega arith) a.1 in
      ((sound_means st).0 a.0, leb-true (file_length st.plan) room b.0)

  -- ---- runs: 10, 11, 12
  pub run-most : (budget room : ℕ) → run_number st budget room ≤ 14
  unfolding run_number run_number_if_sound
  run-most budget room =
      most (is_sound st)
      (most (leb budget 1024) (most (leb (room_of st.plan budget) room) (omega arith) (omega arith)) (omega arith)) (omega arith)

  pub run_zero : (budget room : ℕ) → run_number st budget room ≡ 0 → Sound st × (budget ≤ 1024) × (room_of st.plan budget ≤ room)
  unfolding run_number run_number_if_sound
  run_zero budget room e =
      let asked = room_of st.plan budget in
      let a = passes (is_sound st) (omega arith) e in
      let b = passes (leb budget 1024) (omega arith) a.1 in
      let c = passes (leb asked room) (omega arith) b.1 in
      ((sound_means st).0 a.0, leb-true budget 1024 b.0, leb-true asked room c.0)

  -- ---- the position call: 10, 14
  pub position-most : (i : ℕ) → position_number st i ≤ 14
  unfolding position_number
  position-most i = most (is_sound st) (most (ltb i st.plan.counts.n) (omega arith) (omega arith)) (omega arith)

  pub position_zero : (i : ℕ) → position_number st i ≡ 0 → Sound st × (i < st.plan.counts.n)
  unfolding position_number
  position_zero i e =
      let a = passes (is_sound st) (omega arith) e in let b = passes (ltb i st.plan.counts.n) (omega arith) a.1 in
      ((sound_means st).0 a.0, ltb-true i st.plan.counts.n b.0)
