-- `full_buffer` meets its contract.
use Rattle.definition.specs.Status.{pick}
use Rattle.report.specs.report.Report.{full_text}
use Rattle.text.proofs.Writers.{appends_nothing}
use Rattle.report.proofs.report.full_buffer.Goals as goal

pub returns-then-full : goal.returns-then-full
unfolding full_text pick
returns-then-full c = rw c.if-full.true c.copy.ensures.appends

pub returns-else-full : goal.returns-else-full
unfolding full_text pick
returns-else-full c = rw c.if-full.false (appends_nothing _ c.args.to.now)
