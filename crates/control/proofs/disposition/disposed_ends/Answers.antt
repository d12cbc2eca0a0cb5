use mathlib.Core.Path.{◌∙◌}
use Rattle.control.proofs.ends.Parts.{disposed_by}
use Rattle.control.proofs.disposition.disposed_ends.Goals as goal

pub returns : goal.returns
returns c =
    (rw (c.peer_moved-n.ensures, c.own_moved-m.ensures) at c.put_back.ensures)
    ∙ disposed_by _ _ _ _ _ _ _
