use native.Mathlib.Omega.{arith}
use Rattle.definition_script.specs.Line.{signal_text}
use Rattle.text.proofs.Writers.{appends_up_to}
use Rattle.line.proofs.line.signal.Goals as goal

pub returns-in-None : goal.returns-in-None
unfolding signal_text
returns-in-None c = rw c.in-None.is (appends_up_to 8 (omega arith) c.byte.ensures.appends)

pub returns-in-Some : goal.returns-in-Some
unfolding signal_text
returns-in-Some c = rw c.in-Some.is c.hex.ensures.appends
