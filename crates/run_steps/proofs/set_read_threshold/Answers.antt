use Rattle.definition_runs.specs.Run.{did_read_threshold}
use Rattle.run_steps.proofs.set_read_threshold.Goals as goal

pub returns : goal.returns
returns c = λ one two base memory. did_read_threshold c.set_read_threshold.ensures
