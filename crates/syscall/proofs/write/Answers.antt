use Rattle.socket.proofs.Visiting.{places_128}
use Rattle.syscall.proofs.Settled.{wrote-whole}
use Rattle.syscall.proofs.write.Goals as goal

pub returns : goal.returns
returns c =
    let a = c.args in
    rw (c.settle.ensures, c.write_outcome.ensures)
    (wrote-whole a.p a.handle a.b.base a.options a.b.address a.b.count a.b.count_at _ _ (places_128 a.p _ c.well_formed.0)
    c.ends_of-e.ensures.ends a.memory.now _
    a.ring.now _ a.table.now _ c.write_transfer-t.ensures)
