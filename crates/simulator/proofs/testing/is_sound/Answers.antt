-- What the test of the state says.
use Rattle.std.proofs.Common.{◌∙◌}
use Rattle.soundness.proofs.Laws.Answers.{sound_told}
use Rattle.simulator.proofs.testing.is_sound.Goals as goal

pub returns : goal.returns
returns c = c.is_some.ensures ∙ sound_told _ c.test_state.ensures
