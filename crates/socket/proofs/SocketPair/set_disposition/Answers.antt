use Rattle.socket.proofs.Inner.{inner_128}
use Rattle.socket.proofs.Controlled.{dispose_whole}
use Rattle.socket.proofs.SocketPair.set_disposition.Goals as goal

pub returns : goal.returns
returns c =
    rw (c.into.ensures, c.settle.ensures)
    (dispose_whole c.args.self.inner c.args.handle _ _ (inner_128 c.args.self _ c.well_formed.0) c.ends_of.ensures.ends c.args.disposition c.args.peer_disposition c.dispose_ends-r.ensures)
