-- What the stored pair is after a write and a read, by the way that the code went. Assumes nothing.
use Prim.Native.Nat.{ℕ}
use mathlib.Core.Path.{◌≡◌, ap, ◌∙◌}
use Rattle.endpoint.specs.declared.ends.EndsOutcome.{EndsOutcome}
use Rattle.definition.specs.declared.Pair.{Pair}
use Rattle.transfer.specs.declared.change.Transfer.{Transfer}
use Rattle.transfer.specs.write.WriteChange.{wrote_by}
use Rattle.transfer.specs.read.ReadChange.{read_by}
use Rattle.transfer.proofs.change.Changes.{outcome-answer}
use Rattle.definition.specs.declared.Ends.{Ends}
use Rattle.socket.specs.Deferred.{settled_step}

-- the outcome was settled
pub passed_on : (r s : EndsOutcome) (p q : Pair) → s ≡ r → q ≡ (settled_step s p).pair → q ≡ (settled_step r p).pair
passed_on r s p q e f = f ∙ ap (λ (k : EndsOutcome). (settled_step k p).pair) e

pub wrote-answer : (e : Ends) (h : ℕ) (t : Transfer) → t.answer ≡ (wrote_by e h t).answer
unfolding wrote_by
wrote-answer e h t = outcome-answer e h t.answer _

pub read_answer : (e : Ends) (h : ℕ) (t : Transfer) → t.answer ≡ (read_by e h t).answer
unfolding read_by
read_answer e h t = outcome-answer e h t.answer _
