-- Proof: the test that the calls try is the clauses of a sound state; loaded states are sound; the idle state, with its file; the next
-- command. Assumes nothing.
use Rattle.std.specs.Prelude.{refl}
use Rattle.std.proofs.Common.{sym, ◌∙◌}
use Rattle.plan.specs.Format.{plan_in}
use Rattle.plan.specs.Tests.{count_list}
use Rattle.plan.specs.Encoding.{offset_from, offset_of, file_length}
use Rattle.plan.proofs.Laws.Layout.{length_of}
use Rattle.plan.specs.Idle.{idle_plan}
use Rattle.plan.proofs.Laws.FileRefusals.{accepted-rules}
use Rattle.plan.proofs.Laws.Entries.{file_unused}
use Rattle.plan.proofs.Laws.IdlePlan.{idle-rules, idle-unused, idle-shaped}
use Rattle.plan.proofs.Laws.Layout.{length-encode}
use Rattle.machine.specs.Start.{start_state, idle_state}
use Rattle.machine.specs.Sound.{Sound}
use Rattle.machine.proofs.Laws.StartSound.{start-sound, idle-sound}
use Rattle.machine.proofs.Laws.Next.{command_is}
use Rattle.machine.proofs.Laws.SoundTest.{clauses_words}
use Rattle.calls.specs.Promises.States.{SoundMeans, LoadSound, IdleLoaded, NextDetermined}
use Rattle.calls.proofs.Proofs.Files.{load_either, load_encoded}

pub sound_means : SoundMeans
sound_means = Rattle.machine.proofs.Laws.SoundTest.sound_means

pub load_sound : LoadSound
unfolding start_state
load_sound file =
    load_either file Sound (λ yes. clauses_words (plan_in file) _ (start-sound (plan_in file) (accepted-rules file yes) (file_unused file)))
    (clauses_words idle_state.plan idle_state.run idle-sound)

pub idle-loaded : IdleLoaded
unfolding idle_state count_list offset_from length_of offset_of file_length
idle-loaded =
    record {
      start = refl;
      integrators = refl;
      nothing_else = (refl, refl, refl, refl);
      first-start = refl;
      quantum = refl;
      horizon = refl;
      size = length-encode idle_plan;
      loaded = load_encoded idle_plan idle-rules idle-unused idle-shaped;
      sound = clauses_words idle_state.plan idle_state.run idle-sound;
    }

pub next_determined : NextDetermined
next_determined st next ok h before this = ok.next ∙ sym (command_is st.plan st.run.clocks.clock next h before this)
