use Rattle.socket.proofs.Visiting.{places_128}
use Rattle.syscall.proofs.Controlled.{shutdown-whole}
use Rattle.syscall.proofs.shutdown.Goals as goal

pub returns : goal.returns
returns c =
    rw c.settle.ensures
    (shutdown-whole c.args.p c.args.handle _ _ (places_128 c.args.p _ c.well_formed.0) c.ends_of.ensures.ends c.args.options c.shutdown_ends-r.ensures)
