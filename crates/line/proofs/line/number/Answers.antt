use Rattle.definition_script.specs.Line.{number_text}
use Rattle.text.proofs.Writers.{then_appends}
use Rattle.line.proofs.line.number.Goals as goal

pub returns : goal.returns
unfolding number_text
returns c = then_appends c.byte.ensures.appends c.decimal.ensures.appends
