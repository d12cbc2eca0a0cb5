use Rattle.definition_runs.specs.Run.{did_plain_write}
use Rattle.run_steps.proofs.Lent.{rings, tables}
use Rattle.run_steps.proofs.plain_write.Goals as goal

pub returns : goal.returns
returns c = λ base one two e. did_plain_write (rw (← rings e, ← tables e) at c.write.ensures)
