-- `entry` meets its contract.
use native.Mathlib.Omega.{arith}
use Rattle.report.specs.report.Report.{entry_text}
use Rattle.text.proofs.Writers.{then_appends, appends_up_to}
use Rattle.report.proofs.report.entry.Goals as goal

pub returns : goal.returns
unfolding entry_text
returns c = appends_up_to _ (omega arith) (then_appends c.numbered.ensures (then_appends c.copy.ensures.appends c.byte.ensures.appends))
