use borrow.Author.Rules.{rules}
use Rattle.kept.proofs.pair.Stored.{close_settled}
use Rattle.kept.proofs.pair.close.Goals as goal

pub returns : goal.returns
returns c = (search rules, close_settled c.args.handle c.args.r c.args.p.now _ _ c.with_outcome.ensures c.close_waits.ensures.1)
