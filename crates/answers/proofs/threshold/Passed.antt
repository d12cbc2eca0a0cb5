-- What the tests of a write threshold, once passed, tell of the record. Assumes nothing.
use Prim.Native.Nat.{ℕ}
use mathlib.Core.Path.{◌≡◌, sym, ap, ◌∙◌}
use mathlib.Core.Bool.{true}
use Rattle.definition.specs.Status.{Answer}
use Rattle.definition.specs.Status.{is_done}
use Rattle.endpoint.proofs.answer.Chains.{then_both}
use Rattle.definition.specs.declared.Ends.{Ends}
use Rattle.answers.proofs.tests.Sound.{SoundEnds, opening_passed}
use Rattle.definition.specs.Threshold.{write_threshold_answer}

-- a write threshold that may be set
pub threshold_sound : (p : Ends) (h n : ℕ) (x : Answer) → x ≡ write_threshold_answer p h n → is_done x ≡ true → SoundEnds p
unfolding write_threshold_answer
threshold_sound p h n x e d = opening_passed p h (then_both _ _ (ap is_done (sym e) ∙ d)).0
