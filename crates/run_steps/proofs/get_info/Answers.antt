use Rattle.definition_runs.specs.Run.{did_info}
use Rattle.run_steps.proofs.Lent.{tables}
use Rattle.run_steps.proofs.get_info.Goals as goal

pub returns : goal.returns
returns c = λ ring base memory one two e. did_info (rw (← tables e) at c.get_info.ensures)
