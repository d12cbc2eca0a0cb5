use Rattle.definition_runs.specs.Run.{did_write_threshold}
use Rattle.run_steps.proofs.set_write_threshold.Goals as goal

pub returns : goal.returns
returns c = λ one two base memory. did_write_threshold c.set_write_threshold.ensures
