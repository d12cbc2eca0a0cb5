use borrow.Author.Rules.{rules}
use Rattle.syscall.proofs.Controlled.{shutdown-whole}
use Rattle.host.proofs.Stored.{settled}
use Rattle.host.proofs.memory.murgwethan_user_shutdown.Goals as goal

pub returns : goal.returns
returns c =
    let a = c.args in
    settled _ c.shutdown_ends-r.result a.p.now _ _ (search rules) c.outcome.ensures.1
    (shutdown-whole a.p.now a.handle _ _ c.ends_of.ensures.size c.ends_of.ensures.ends a.options c.shutdown_ends-r.ensures)
