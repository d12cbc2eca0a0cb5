use Rattle.socket.proofs.Inner.{inner_128}
use Rattle.socket.proofs.Controlled.{shutdown-whole}
use Rattle.socket.proofs.SocketPair.shutdown.Goals as goal

pub returns : goal.returns
returns c =
    rw (c.into.ensures, c.settle.ensures)
    (shutdown-whole c.args.self.inner c.args.handle _ _ (inner_128 c.args.self _ c.well_formed.0) c.ends_of.ensures.ends c.args.read c.args.write c.shutdown_ends-r.ensures)
