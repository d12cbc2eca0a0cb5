-- `whole` meets its contract.
use native.Mathlib.Omega.{arith}
use Rattle.report.specs.report.Report.{report_text}
use Rattle.text.proofs.Writers.{then_appends, appends_up_to, writes}
use Rattle.report.proofs.report.whole.Goals as goal

pub returns-then-has_room : goal.returns-then-has_room
unfolding report_text
returns-then-has_room c =
    writes (omega (arith, c.has_room.ensures.yes c.if-has_room.true))
    (appends_up_to _ (omega arith) (then_appends c.first.ensures (then_appends c.cut_entry.ensures (then_appends c.full_buffer.ensures c.counts.ensures))))
