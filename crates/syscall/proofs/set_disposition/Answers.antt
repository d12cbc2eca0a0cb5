use Rattle.socket.proofs.Visiting.{places_128}
use Rattle.syscall.proofs.Controlled.{dispose_whole}
use Rattle.syscall.proofs.set_disposition.Goals as goal

pub returns : goal.returns
returns c =
    rw c.settle.ensures
    (dispose_whole c.args.p c.args.handle _ _ (places_128 c.args.p _ c.well_formed.0) c.ends_of.ensures.ends c.args.disposition c.args.peer_disposition c.dispose_ends-r.ensures)
