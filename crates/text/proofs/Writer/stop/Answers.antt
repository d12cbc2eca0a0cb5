use Rattle.definition_script.specs.Line.{stop_of}
use Rattle.text.proofs.Writers.{then_appends, writes}
use Rattle.text.proofs.Writer.stop.Goals as goal

pub returns-then-has_room : goal.returns-then-has_room
unfolding stop_of
returns-then-has_room c =
    writes (c.has_room.ensures.yes c.if-has_room.true) (then_appends c.copy.ensures.appends (then_appends c.decimal.ensures.appends c.byte.ensures.appends))
