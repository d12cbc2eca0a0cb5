use Rattle.definition_script.specs.Line.{signals_text}
use Rattle.text.proofs.Writers.{then_appends}
use Rattle.line.proofs.line.signals.Goals as goal

pub returns : goal.returns
unfolding signals_text
returns c = then_appends c.signal.ensures (then_appends c.byte.ensures.appends c.signal-2.ensures)
