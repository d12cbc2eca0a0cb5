-- `counts` meets its contract.
use Rattle.report.specs.report.Report.{counts_text}
use Rattle.text.proofs.Writers.{then_appends}
use Rattle.report.proofs.report.counts.Goals as goal

pub returns : goal.returns
unfolding counts_text
returns c = then_appends c.decimal.ensures.appends c.numbered.ensures
