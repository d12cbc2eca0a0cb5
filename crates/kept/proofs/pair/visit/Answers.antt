use borrow.Author.Rules.{rules}
use Rattle.endpoint.proofs.answer.Rules.{via}
use Rattle.kept.proofs.pair.Stored.{each_visited, only_visited, not_visited}
use Rattle.kept.proofs.pair.visit.Goals as goal

pub returns-then-has_only_wait : goal.returns-then-has_only_wait
returns-then-has_only_wait c =
    let needed = via c.needs_visit.ensures.needed c.if-needs_visit.true in
    let only = via c.has_only_wait.ensures c.if-has_only_wait.true in
    (search rules, only_visited c.args.r c.args.p.now _ c.needs_visit.ensures.size needed only c.visit_only.ensures)

pub returns-else-has_only_wait : goal.returns-else-has_only_wait
returns-else-has_only_wait c =
    let needed = via c.needs_visit.ensures.needed c.if-needs_visit.true in
    (search rules, each_visited c.args.r c.args.p.now _ c.needs_visit.ensures.size needed c.visit_each.ensures)

pub returns-else-needs_visit : goal.returns-else-needs_visit
returns-else-needs_visit c =
    let idle = via c.needs_visit.ensures.needed c.if-needs_visit.false in
    (search rules, not_visited c.args.r c.args.p.now c.needs_visit.ensures.size idle)
