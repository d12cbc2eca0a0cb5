use borrow.Author.Rules.{rules}
use Rattle.syscall.proofs.Controlled.{dispose_whole}
use Rattle.host.proofs.Stored.{settled}
use Rattle.host.proofs.memory.murgwethan_user_set_disposition.Goals as goal

pub returns : goal.returns
returns c =
    let a = c.args in
    settled _ c.dispose_ends-r.result a.p.now _ _ (search rules) c.outcome.ensures.1
    (dispose_whole a.p.now a.handle _ _ c.ends_of.ensures.size c.ends_of.ensures.ends a.disposition a.peer_disposition c.dispose_ends-r.ensures)
