use Rattle.socket.proofs.Visiting.{places_128}
use Rattle.syscall.proofs.Settled.{bytes_whole}
use Rattle.syscall.proofs.read_bytes.Goals as goal

pub returns : goal.returns
returns c =
    let a = c.args in
    rw (c.settle.ensures, c.read_outcome.ensures)
    (bytes_whole a.p a.handle a.b.base a.options a.b.address a.b.count a.b.count_at _ _ (places_128 a.p _ c.well_formed.0)
    c.ends_of-e.ensures.ends a.ring.now a.table.now a.memory.now _
    c.read_bytes_transfer-t.ensures)
