use Rattle.definition_script.specs.Line.{front_text}
use Rattle.text.proofs.Writers.{then_appends}
use Rattle.line.proofs.line.front.Goals as goal

pub returns : goal.returns
unfolding front_text
returns c = then_appends c.decimal.ensures.appends (then_appends c.byte.ensures.appends (then_appends c.word.ensures.appends c.byte-2.ensures.appends))
