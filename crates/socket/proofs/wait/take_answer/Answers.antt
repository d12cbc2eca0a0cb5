use mathlib.Core.Path.{sym, ap, ◌∙◌}
use Rattle.definition.specs.Status.{is_done}
use Rattle.endpoint.proofs.answer.Rules.{left, passed}
use Rattle.answers.proofs.tests.Sound.{sound-passed}
use Rattle.definition.specs.Pair.{ends_of}
use Rattle.definition.specs.Port.{take_answer}
use Rattle.socket.proofs.Waits.{oldest_answer}
use Rattle.socket.proofs.wait.take_answer.Goals as goal

pub returns-in_err-sound_test : goal.returns-in_err-sound_test
unfolding take_answer
returns-in_err-sound_test c = left _ _ _ _ _ (rw c.ends_of.ensures.ends at c.sound_test.ensures) c.in_err-sound_test.was c.from_residual.ensures

pub returns : goal.returns
unfolding take_answer is_done
returns c =
    let p = c.args.p in
    let told = rw c.ends_of.ensures.ends at c.sound_test.ensures in
    let sound = sound-passed (ends_of p) (ap is_done (sym told ∙ c.in_ok-sound_test.was)) in
    passed _ _ _ _ _ told c.in_ok-sound_test.was (c.oldest.ensures ∙ oldest_answer p.places sound.places)
