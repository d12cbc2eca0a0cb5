use Rattle.port.proofs.waits.Operations.{register_if}
use Rattle.port.proofs.waits.registered.Goals as goal

pub returns : goal.returns
returns c =
    let a = c.args in
    rw (
      c.placed.ensures,
      c.has_room.ensures,
      c.new_place-p.ensures,
      c.fires_at_once-now.ensures,
    ) (register_if a.asked a.one a.word a.key a.mask a.edge a.t)
