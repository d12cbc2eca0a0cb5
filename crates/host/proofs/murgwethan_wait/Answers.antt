use Rattle.definition.specs.Port.{wait_answer}
use Rattle.definition.specs.declared.Ends.{Ends}
use Rattle.socket.proofs.Waits.{wait-steps}
use borrow.Author.Rules.{rules}
use mathlib.Core.Path.{ap, ◌∙◌}
use Rattle.host.proofs.murgwethan_wait.Goals as goal

pub returns : goal.returns
returns c =
    let a = c.args in
    let asked = c.wait_answer-a.ensures ∙ ap (λ (k : Ends). wait_answer k a.handle a.edge) c.ends_of.ensures.ends in
    record {
      answer = c.wait_answer-a.result;
      word = search rules;
      kept = wait-steps a.p.now a.handle a.key a.mask a.edge c.wait_answer-a.result _ asked c.wait.ensures.1;
    }
