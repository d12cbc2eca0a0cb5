use Rattle.definition_script.specs.Line.{info_text, own_text, rest_text}
use Rattle.text.proofs.Writers.{then_appends}
use Rattle.line.proofs.line.info.Goals as goal

pub returns : goal.returns
unfolding info_text own_text rest_text
returns c =
    then_appends (then_appends c.number.ensures (then_appends c.number-2.ensures c.number-3.ensures))
    (then_appends c.number-4.ensures (then_appends c.number-5.ensures c.number-6.ensures))
