-- `numbered` meets its contract.
use Rattle.report.specs.report.Report.{numbered_text}
use Rattle.text.proofs.Writers.{then_appends}
use Rattle.report.proofs.report.numbered.Goals as goal

pub returns : goal.returns
unfolding numbered_text
returns c = then_appends c.copy.ensures.appends (then_appends c.decimal.ensures.appends c.copy-2.ensures.appends)
