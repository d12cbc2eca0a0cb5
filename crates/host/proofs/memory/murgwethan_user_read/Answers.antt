use Rattle.definition.specs.Pair.{ends_of}
use Rattle.definition.specs.Read.{UserReads}
use Rattle.definition.specs.Status.{answer_word}
use Rattle.definition.specs.declared.Ends.{Ends}
use Rattle.definition.specs.declared.Step.{Step}
use Rattle.kept.proofs.pair.Stored.{settled_as}
use Rattle.kept.proofs.transfers.Stored.{passed_on, read_answer}
use Rattle.syscall.proofs.Settled.{read_whole}
use Rattle.transfer.specs.read.ReadChange.{read_by}
use borrow.Author.Rules.{rules}
use mathlib.Core.Path.{◌≡◌, ap, subst, sym, ◌∙◌}
use mathlib.Core.Path.{◌≡◌, ◌∙◌, ap, sym, subst}
use mir.Syntax.{w64}
use mir.Val.{to_z, of_z}
use Rattle.host.proofs.memory.murgwethan_user_read.Goals as goal

pub returns : goal.returns
returns c =
    let a = c.args in
    let h = a.p.now in
    let e = c.ends_of.result in
    let t = c.read_transfer-t.result in
    let r = read_by e a.handle t in
    let word : to_z w64 (of_z w64 c.read.result) ≡ answer_word t.answer = search rules in
    let ends = ap (λ (k : Ends). read_by k a.handle t) (sym c.ends_of.ensures.ends) in
    record {
      answer = r.answer;
      word = word ∙ ap answer_word (read_answer e a.handle t);
      kept = subst (λ (k : Step). UserReads h a.handle a.base a.options a.address a.count a.count_at a.ring.now a.table.now a.memory.now c.read_transfer-t.new.memory k)
          (settled_as r h _ (passed_on r (read_by (ends_of h) a.handle t) h _ ends c.read.ensures.1))
          (read_whole h a.handle a.base a.options a.address a.count a.count_at e t c.ends_of.ensures.size c.ends_of.ensures.ends a.ring.now a.table.now a.memory.now _ c.read_transfer-t.ensures);
    }
