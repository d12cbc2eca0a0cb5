use Rattle.definition_runs.specs.Run.{did_shutdown}
use Rattle.run_steps.proofs.shutdown.Goals as goal

pub returns : goal.returns
returns c = λ one two base memory. did_shutdown c.shutdown.ensures
