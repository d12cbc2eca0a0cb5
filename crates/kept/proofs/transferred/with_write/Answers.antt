use mathlib.Core.Path.{◌∙◌}
use Rattle.kept.proofs.transferred.NoVisit.{transferred_wrote}
use Rattle.kept.proofs.transferred.with_write.Goals as goal

pub returns : goal.returns
returns c = c.with_transfer.ensures ∙ transferred_wrote _ c.args.x c.args.p
