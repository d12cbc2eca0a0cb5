use Rattle.definition_runs.specs.Run.{did_write}
use Rattle.run_steps.proofs.Lent.{rings, tables}
use Rattle.run_steps.proofs.write.Goals as goal

pub returns : goal.returns
returns c = λ one two e. did_write (rw (← rings e, ← tables e) at c.write.ensures)
