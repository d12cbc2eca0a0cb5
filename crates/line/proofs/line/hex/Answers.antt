use Rattle.definition_script.specs.Line.{hex_text}
use Rattle.text.proofs.Writers.{then_appends}
use Rattle.line.proofs.line.hex.Goals as goal

pub returns : goal.returns
unfolding hex_text
returns c = then_appends c.byte.ensures.appends c.hex.ensures.appends
