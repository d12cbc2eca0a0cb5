use borrow.Author.Rules.{rules}
use Rattle.socket.proofs.Controlled.{close-whole}
use Rattle.host.proofs.Stored.{settled_by_close}
use Rattle.host.proofs.murgwethan_close.Goals as goal

pub returns : goal.returns
returns c =
    let a = c.args in
    settled_by_close _ c.close_ends-r.result a.p.now _ _ (search rules) a.handle c.close.ensures.1
    (close-whole a.p.now a.handle _ _ c.ends_of.ensures.size c.ends_of.ensures.ends c.close_ends-r.ensures)
