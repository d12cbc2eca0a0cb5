use Rattle.definition.specs.Pair.{ends_of}
use Rattle.definition.specs.Status.{answer_word}
use Rattle.definition.specs.Write.{UserWrites}
use Rattle.definition.specs.declared.Ends.{Ends}
use Rattle.definition.specs.declared.Step.{Step}
use Rattle.kept.proofs.pair.Stored.{settled_as}
use Rattle.kept.proofs.transfers.Stored.{passed_on, wrote-answer}
use Rattle.syscall.proofs.Settled.{wrote-whole}
use Rattle.transfer.specs.write.WriteChange.{wrote_by}
use borrow.Author.Rules.{rules}
use mathlib.Core.Path.{◌≡◌, ap, subst, sym, ◌∙◌}
use mathlib.Core.Path.{◌≡◌, ◌∙◌, ap, sym, subst}
use mir.Syntax.{w64}
use mir.Val.{to_z, of_z}
use Rattle.host.proofs.memory.murgwethan_user_write.Goals as goal

pub returns : goal.returns
returns c =
    let a = c.args in
    let h = a.p.now in
    let e = c.ends_of.result in
    let t = c.write_transfer-t.result in
    let r = wrote_by e a.handle t in
    let word : to_z w64 (of_z w64 c.wrote.result) ≡ answer_word t.answer = search rules in
    let ends = ap (λ (k : Ends). wrote_by k a.handle t) (sym c.ends_of.ensures.ends) in
    record {
      answer = r.answer;
      word = word ∙ ap answer_word (wrote-answer e a.handle t);
      kept = subst (λ (k : Step). UserWrites h a.handle a.base a.options a.address a.count a.count_at a.memory.now c.write_transfer-t.new.memory a.ring.now c.write_transfer-t.new.ring a.table.now c.write_transfer-t.new.table k)
          (settled_as r h _ (passed_on r (wrote_by (ends_of h) a.handle t) h _ ends c.wrote.ensures.1))
          (wrote-whole h a.handle a.base a.options a.address a.count a.count_at e t c.ends_of.ensures.size c.ends_of.ensures.ends a.memory.now _ a.ring.now _ a.table.now _ c.write_transfer-t.ensures);
    }
