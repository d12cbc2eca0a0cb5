use Rattle.socket.proofs.Waits.{take_steps}
use borrow.Author.Rules.{rules}
use Rattle.host.proofs.records.murgwethan_take.Goals as goal

pub returns : goal.returns
returns c =
    let a = c.args in
    let answered = c.take_answer-a.result in
    record {
      answer = answered;
      word = search rules;
      kept = record { step = take_steps a.p.now answered _ c.take_answer-a.ensures.0 c.take.ensures.1; array = c.take_answer-a.ensures.1 };
    }
