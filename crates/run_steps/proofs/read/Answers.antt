use Rattle.run_steps.proofs.Lent.{in_whole}
use Rattle.run_steps.proofs.read.Goals as goal

pub returns : goal.returns
returns c = in_whole c.read.ensures
