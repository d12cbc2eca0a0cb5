use mathlib.Core.Path.{◌≡◌, ap, sym, ◌∙◌}
use mathlib.Core.Bool.{false}
use Rattle.definition.specs.Status.{is_done}
use Rattle.control.proofs.ends.Outcomes.{refused}
use Rattle.socket.proofs.Done.{done_as}
use Rattle.syscall.proofs.Passed.{dispose_passed}
use Rattle.endpoint.proofs.answer.Steps.{number_taken, number_refused}
use Rattle.syscall.proofs.Numbers.{first_refused, second_refused}
use Rattle.syscall.proofs.deferred.dispose_ends.Goals.{in_default-via-in-Ok-Ok+else-is_ok, in_default-via-in-Ok+in_default, in_default-via-in_default}
use Rattle.syscall.proofs.deferred.dispose_ends.Goals as goal

pub returns-in-Ok-Ok : goal.returns-in-Ok-Ok
returns-in-Ok-Ok c =
    let a = c.args in
    let d = done_as _ c.is_ok.ensures.value c.if-is_ok.true in
    let same = dispose_passed a.e a.handle a.disposition a.peer_disposition (ap is_done (sym c.dispose_answer-a.ensures) ∙ d) in
    let first = number_taken _ _ _ c.try_from.ensures c.in-Ok-Ok.is-0 in
    let second = number_taken _ _ _ c.try_from-2.ensures c.in-Ok-Ok.is-1 in
    rw (← first.1, ← second.1, same) at c.dispose_ends.ensures

pub returns-in_default : goal.returns-in_default
returns-in_default c =
    let told = ap is_done c.dispose_answer-a.ensures in
    let no : is_done c.dispose_answer-a.result ≡ false
    = elim c.in_default.branch [
      | in_default-via-in-Ok-Ok+else-is_ok w ↦ done_as _ w.is_ok.ensures.value w.if-is_ok.false
      | in_default-via-in-Ok+in_default w ↦ told ∙ second_refused _ _ _ _ (number_refused _ _ _ c.try_from-2.ensures w.in_default.is-1).0
      | in_default-via-in_default w ↦ told ∙ first_refused _ _ _ _ (number_refused _ _ _ c.try_from.ensures w.in_default.is-0).0
    ] in
    c.unchanged.ensures ∙ refused _ _ _ _ _ c.dispose_answer-a.ensures no
