use Rattle.definition_runs.specs.Run.{did_cancel}
use Rattle.run_steps.proofs.cancel.Goals as goal

pub returns : goal.returns
returns c = λ one two base memory. did_cancel c.cancel.ensures
