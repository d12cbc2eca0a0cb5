use mathlib.Core.Path.{◌≡◌, ap, ◌∙◌}
use Rattle.std.specs.declared.result.Result.TheVariants.{Err}
use Rattle.definition.specs.declared.Status.TheVariants.{InvalidArgs}
use Rattle.definition.specs.Status.{is_done, ◌then◌}
use Rattle.definition.specs.Tests.{opening_test}
use Rattle.definition.specs.Disposition.{plain_dispose_answer}
use Rattle.control.proofs.ends.Outcomes.{refused}
use Rattle.endpoint.proofs.answer.Steps.{number_taken, number_refused}
use Rattle.host.proofs.values.Disposed.{and_is_then, never_done, first_above, second_above, within}
use Rattle.host.proofs.values.dispose_ends.Goals.{in_default-via-in-Ok+in_default, in_default-via-in_default}
use Rattle.host.proofs.values.dispose_ends.Goals as goal

pub returns-in-Ok-Ok : goal.returns-in-Ok-Ok
returns-in-Ok-Ok c =
    let a = c.args in
    let first = number_taken _ _ _ c.try_from.ensures c.in-Ok-Ok.is-0 in
    let second = number_taken _ _ _ c.try_from-2.ensures c.in-Ok-Ok.is-1 in
    rw (← first.1, ← second.1, within a.e a.handle a.disposition a.peer_disposition first.0 second.0) at c.dispose_ends.ensures

pub returns-in_default : goal.returns-in_default
returns-in_default c =
    let a = c.args in
    let told = c.and.ensures ∙ and_is_then _ _ c.opening_test.ensures in
    let plain : (opening_test a.e a.handle then Err InvalidArgs) ≡ plain_dispose_answer a.e a.handle a.disposition a.peer_disposition
    = elim c.in_default.branch [
      | in_default-via-in-Ok+in_default w ↦ second_above _ _ _ _ (number_taken _ _ _ c.try_from.ensures w.in_default.is-0).0 (number_refused _ _ _ c.try_from-2.ensures w.in_default.is-1).0
      | in_default-via-in_default w ↦ first_above _ _ _ _ (number_refused _ _ _ c.try_from.ensures w.in_default.is-0).0
    ] in
    c.unchanged.ensures ∙ refused _ _ _ _ _ (told ∙ plain) (ap is_done told ∙ never_done _ _)
