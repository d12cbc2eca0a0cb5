use Rattle.definition_runs.specs.Run.{did_plain_dispose}
use Rattle.run_steps.proofs.Numbered.{steps_numbered}
use Rattle.run_steps.proofs.plain_disposition.Goals as goal

pub returns : goal.returns
returns c =
    let a = c.args in
    λ one two base memory. did_plain_dispose (steps_numbered a.p.inner a.handle a.disposition a.peer_disposition _ c.set_disposition.ensures)
