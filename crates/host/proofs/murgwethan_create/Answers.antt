use Rattle.kept.proofs.places.Stored.{created_steps}
use borrow.Author.Rules.{rules}
use Rattle.host.proofs.murgwethan_create.Goals as goal

pub returns : goal.returns
returns c =
    let a = c.args in
    record {
      answer = c.create_answer-a.result;
      word = search rules;
      kept = created_steps a.p.now a.kind a.capacity a.rights_one a.rights_two _ _ _ _ c.create_answer-a.result _ c.create_answer-a.ensures c.create.ensures.1;
    }
