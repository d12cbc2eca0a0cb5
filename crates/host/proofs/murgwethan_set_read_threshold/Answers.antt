use borrow.Author.Rules.{rules}
use Rattle.socket.proofs.Controlled.{read_threshold_whole}
use Rattle.host.proofs.Stored.{settled}
use Rattle.host.proofs.murgwethan_set_read_threshold.Goals as goal

pub returns : goal.returns
returns c =
    let a = c.args in
    settled _ c.read_threshold_ends-r.result a.p.now _ _ (search rules) c.outcome.ensures.1
    (read_threshold_whole a.p.now a.handle _ _ c.ends_of.ensures.size c.ends_of.ensures.ends a.threshold c.read_threshold_ends-r.ensures)
