-- `cut_entry` meets its contract.
use Rattle.definition.specs.Status.{pick}
use Rattle.report.specs.report.Report.{cut_text}
use Rattle.text.proofs.Writers.{appends_nothing}
use Rattle.report.proofs.report.cut_entry.Goals as goal

pub returns-then-cut : goal.returns-then-cut
unfolding cut_text pick
returns-then-cut c = rw c.if-cut.true c.numbered.ensures

pub returns-else-cut : goal.returns-else-cut
unfolding cut_text pick
returns-else-cut c = rw c.if-cut.false (appends_nothing _ c.args.to.now)
