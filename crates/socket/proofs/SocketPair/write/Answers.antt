use Rattle.socket.proofs.Inner.{inner_128}
use Rattle.socket.proofs.Settled.{wrote-whole}
use Rattle.socket.proofs.SocketPair.write.Goals as goal

pub returns : goal.returns
returns c =
    let a = c.args in
    rw (c.into.ensures, c.settle.ensures, c.write_outcome-r.ensures)
    (wrote-whole a.self.inner a.handle a.bytes.now a.ring.now _ a.table.now _ _ _ (inner_128 a.self _ c.well_formed.0)
    c.ends_of-e.ensures.ends
    c.write_transfer-t.ensures)
