use Rattle.definition_runs.specs.Run.{did_dispose}
use Rattle.run_steps.proofs.set_disposition.Goals as goal

pub returns : goal.returns
returns c = λ one two base memory. did_dispose c.set_disposition.ensures
