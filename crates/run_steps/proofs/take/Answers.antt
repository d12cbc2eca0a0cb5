use Rattle.definition_runs.specs.Run.{did_take}
use Rattle.run_steps.proofs.take.Goals as goal

pub returns : goal.returns
returns c = λ one two base memory. did_take c.take.ensures
