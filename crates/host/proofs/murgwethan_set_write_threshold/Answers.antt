use borrow.Author.Rules.{rules}
use Rattle.socket.proofs.Controlled.{write_threshold_whole}
use Rattle.host.proofs.Stored.{settled}
use Rattle.host.proofs.murgwethan_set_write_threshold.Goals as goal

pub returns : goal.returns
returns c =
    let a = c.args in
    settled _ c.write_threshold_ends-r.result a.p.now _ _ (search rules) c.outcome.ensures.1
    (write_threshold_whole a.p.now a.handle _ _ c.ends_of.ensures.size c.ends_of.ensures.ends a.threshold c.write_threshold_ends-r.ensures)
