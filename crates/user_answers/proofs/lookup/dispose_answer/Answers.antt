use native.Mathlib.Omega.{arith}
use Rattle.endpoint.proofs.answer.Steps.{steps, number_taken}
use Rattle.definition.specs.Disposition.{user_dispose_answer}
use Rattle.user_answers.proofs.lookup.dispose_answer.Goals as goal

pub returns : goal.returns
unfolding user_dispose_answer
returns c =
    let a = number_taken c.args.disposition _ _ c.try_from.ensures c.in_ok-own_target.was in
    let b = number_taken c.args.peer_disposition _ _ c.try_from-2.ensures c.in_ok-peer_target.was in
    grind (arith, steps, a.0, a.1, b.0, b.1)
