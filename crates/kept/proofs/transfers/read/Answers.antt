use mathlib.Core.Path.{◌≡◌, ap, sym, ◌∙◌}
use borrow.Author.Rules.{rules}
use mir.Syntax.{w64}
use mir.Val.{to_z, of_z}
use Rattle.definition.specs.Status.{answer_word}
use Rattle.endpoint.proofs.answer.Rules.{via}
use Rattle.kept.specs.transferred.Transferred.{read_without_visit}
use Rattle.kept.proofs.transferred.NoVisit.{no_visit-read}
use Rattle.kept.proofs.transfers.Stored.{read_answer}
use Rattle.kept.proofs.transfers.read.Goals as goal

pub returns-in-Some : goal.returns-in-Some
unfolding read_without_visit
returns-in-Some c =
    let a = c.args in
    let test = rw (c.ends_of-e.ensures.ends, c.in-Some.is) at c.is_read_without_visit.ensures in
    (search rules, no_visit-read a.handle a.t c.in-Some.x a.p.now _ c.in-Some.is (via test c.if-is_read_without_visit.true) c.with_read.ensures)

pub returns-in_default : goal.returns-in_default
returns-in_default c =
    let a = c.args in
    let made = rw c.ends_of-e.ensures.ends at c.read_outcome.ensures in
    let stored = rw made at c.outcome.ensures in
    let same : to_z w64 (of_z w64 c.outcome.result) ≡ c.outcome.result = search rules in
    (same ∙ stored.0 ∙ ap answer_word (sym (read_answer _ a.handle a.t)), stored.1)
