use Rattle.definition_script.specs.Line.{decimal_of}
use Rattle.text.proofs.Spelling.{width_most}
use Rattle.text.proofs.Writers.{appends_up_to, writes}
use Rattle.text.proofs.Writer.decimal.Goals as goal

pub returns-then-has_room : goal.returns-then-has_room
unfolding decimal_of
returns-then-has_room c =
    writes (c.has_room.ensures.yes c.if-has_room.true) (appends_up_to 20 (width_most c.args.n) (rw c.width.ensures at c.digits.ensures).appends)
