use Rattle.definition_script.specs.Line.{line_of}
use Rattle.text.proofs.Writers.{then_appends, writes}
use Rattle.line.proofs.line.Lines.{line_written}
use Rattle.line.proofs.line.line.Goals as goal

pub returns-then-has_room : goal.returns-then-has_room
unfolding line_of
returns-then-has_room c =
    line_written c.if-delivered-le4096.true
    (writes (c.has_room.ensures.yes c.if-has_room.true)
    (then_appends c.front.ensures (then_appends c.signals.ensures (then_appends c.added.ensures c.byte.ensures.appends))))
