use Rattle.definition_runs.specs.Run.{did_wait}
use Rattle.run_steps.proofs.wait.Goals as goal

pub returns : goal.returns
returns c = λ one two base memory. did_wait c.wait.ensures
