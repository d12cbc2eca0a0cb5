use Rattle.definition_runs.specs.Run.{run}
use Rattle.run_steps.proofs.create.Goals as goal

pub returns : goal.returns
returns c = λ is os s calls. run c.create.ensures calls
