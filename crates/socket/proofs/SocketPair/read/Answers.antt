use Rattle.socket.proofs.Inner.{inner_128}
use Rattle.socket.proofs.Settled.{read_whole}
use Rattle.socket.proofs.SocketPair.read.Goals as goal

pub returns : goal.returns
returns c =
    let a = c.args in
    rw (c.into.ensures, c.settle.ensures, c.read_outcome-r.ensures)
    (read_whole a.self.inner a.handle a.peek a.ring.now a.table.now a.buffer.now _ _ _
    (inner_128 a.self _ c.well_formed.0) c.ends_of-e.ensures.ends
    c.read_transfer-t.ensures)
