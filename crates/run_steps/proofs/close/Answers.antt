use Rattle.definition_runs.specs.Run.{did_close}
use Rattle.run_steps.proofs.close.Goals as goal

pub returns : goal.returns
returns c = λ one two base memory. did_close c.close.ensures
