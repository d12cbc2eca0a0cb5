-- `first` meets its contract.
use native.Mathlib.Omega.{arith}
use Rattle.report.specs.report.Report.{first_text, miss_text}
use Rattle.text.proofs.Writers.{then_appends, appends_up_to, appends_nothing}
use Rattle.report.proofs.report.first.Goals as goal

pub returns-in-DiffersAt : goal.returns-in-DiffersAt
unfolding first_text miss_text
returns-in-DiffersAt c = rw (c.in-Some.is, c.in-DiffersAt.is) (appends_up_to _ (omega arith) (then_appends c.entry.ensures c.numbered.ensures))

pub returns-in-NoRoom : goal.returns-in-NoRoom
unfolding first_text miss_text
returns-in-NoRoom c = rw (c.in-Some.is, c.in-NoRoom.is) (appends_up_to _ (omega arith) (then_appends c.entry.ensures c.copy.ensures.appends))

pub returns-in_default : goal.returns-in_default
unfolding first_text
returns-in_default c = rw c.in_default.is (appends_nothing _ c.args.to.now)
