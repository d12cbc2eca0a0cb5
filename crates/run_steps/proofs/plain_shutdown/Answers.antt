use Rattle.definition_runs.specs.Run.{did_plain_shutdown}
use Rattle.run_steps.proofs.plain_shutdown.Goals as goal

pub returns : goal.returns
returns c = λ one two base memory. did_plain_shutdown c.shutdown.ensures
