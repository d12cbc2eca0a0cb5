use Rattle.socket.proofs.Inner.{inner_128}
use Rattle.socket.proofs.Controlled.{read_threshold_whole}
use Rattle.socket.proofs.SocketPair.set_read_threshold.Goals as goal

pub returns : goal.returns
returns c =
    rw (c.into.ensures, c.settle.ensures)
    (read_threshold_whole c.args.self.inner c.args.handle _ _ (inner_128 c.args.self _ c.well_formed.0) c.ends_of.ensures.ends c.args.threshold c.read_threshold_ends-r.ensures)
