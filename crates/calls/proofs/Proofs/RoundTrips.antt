-- Proof: a loaded file is written back byte for byte, and a written plan is loaded back as its start. Assumes nothing.
use Rattle.std.specs.Prelude.{◌≡◌, List, ℕ, ◌≤◌, length, take, drop}
use Rattle.std.proofs.Common.{ap, ◌∙◌}
use Rattle.std.proofs.Math.Seq.{take-append_seam}
use Rattle.words.specs.Word.{Bytes}
use Rattle.plan.specs.Format.{plan_in}
use Rattle.plan.specs.Encoding.{encode}
use Rattle.plan.proofs.Laws.FileRefusals.{accepted-offsets, accepted-sizes}
use Rattle.plan.proofs.Laws.FileRoundTrip.{file_back}
use Rattle.machine.specs.Start.{start_state}
use Rattle.machine.specs.Sound.{Sound}
use Rattle.machine.specs.declared.State.{State}
use Rattle.calls.specs.Calls.{load_of, write_of, buffer_of_write}
use Rattle.calls.specs.Promises.Files.{WrittenBack, LoadThenWrite, WriteThenLoad}
use Rattle.calls.proofs.Proofs.CallNumbers.{write_zero}
use Rattle.calls.proofs.Proofs.Calls.{every-number, accepted}
use Rattle.calls.proofs.Proofs.Files.{load_accepted, every_file, load_encoded}
use Rattle.calls.proofs.Proofs.Sound.{load_sound}

loaded-plan : (file : List ℕ) → (load_of file).number ≡ 0 → (load_of file).state.plan ≡ plan_in file
unfolding start_state
loaded-plan file accepts = ap (λ st. st.plan) ((every_file file).started accepts)

-- from any sound state of the plan
module _ (file buffer : List ℕ) (bytes : Bytes file) (accepts : (load_of file).number ≡ 0) (room : length file ≤ length buffer) where
  written_back : (st : State) → Sound st → st.plan ≡ plan_in file → WrittenBack file buffer st
  written_back st ok same =
      let yes = load_accepted file accepts in
      let back : encode st.plan ≡ file = ap encode same ∙ file_back file bytes (accepted-offsets file yes) (accepted-sizes file yes) in
      let number = (every-number st buffer).write-accepted ok (rw back room) in
      let written = (accepted st buffer).write number in
      record {
        number = number;
        size = rw back at written.0;
        state = written.1;
        bytes = rw back at written.2;
      }

pub load_then_write : LoadThenWrite
load_then_write file buffer bytes accepts room =
    let back = written_back file buffer bytes accepts room in
    record { loaded = back (load_of file).state (load_sound file) (loaded-plan file accepts); later = back }

pub write_then_load : WriteThenLoad
unfolding write_of
write_then_load st buffer shaped number =
    let ok = (write_zero st (length buffer) number).0 in
    let loaded = load_encoded st.plan ok.plan ok.plan-unused shaped in
    record { number = rw (file, loaded); entry = rw (file, loaded); state = rw (file, loaded) }
  where
    file : take (write_of st buffer).length (buffer_of_write st buffer) ≡ encode st.plan
    file =
        let written = (accepted st buffer).write number in
        rw (written.0, written.2) (take-append_seam (encode st.plan) (drop (length (encode st.plan)) buffer))
