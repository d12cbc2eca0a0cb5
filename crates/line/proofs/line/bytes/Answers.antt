use native.Mathlib.Omega.{arith}
use Rattle.text.proofs.Writers.{then_appends, appends_up_to, appends_nothing, appends_same}
use Rattle.line.proofs.line.Lines.{bytes-none, bytes-some}
use Rattle.line.proofs.line.bytes.Goals as goal

pub returns-then-not-is_empty : goal.returns-then-not-is_empty
returns-then-not-is_empty c =
    appends_up_to 8193 (omega arith) (appends_same _ (bytes-some c.args.delivered.now c.if-not-is_empty.ensures) (then_appends c.byte.ensures.appends c.hex_bytes.ensures.appends))

pub returns-else-not-is_empty : goal.returns-else-not-is_empty
returns-else-not-is_empty c = appends_same _ (bytes-none c.args.delivered.now c.if-not-is_empty.ensures) (appends_nothing 8193 c.args.to.now)
