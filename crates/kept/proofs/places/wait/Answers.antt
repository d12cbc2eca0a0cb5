use borrow.Author.Rules.{rules}
use Rattle.endpoint.proofs.answer.Rules.{via}
use Rattle.kept.proofs.places.Stored.{few_waited_on}
use Rattle.kept.proofs.places.wait.Goals as goal

pub returns-then-appends_few : goal.returns-then-appends_few
returns-then-appends_few c =
    let a = c.args in
    (search rules, few_waited_on a.p.now _ _ a.handle a.key a.mask a.edge (via c.appends_few.ensures c.if-appends_few.true) c.registered_last.ensures)
