use borrow.Author.Tests.{ne_eqb}
use mathlib.Core.Path.{sym}
use Rattle.definition.specs.Pair.{own, peer}
use Rattle.definition.specs.Read.{leaving}
use Rattle.endpoint.proofs.answer.Rules.{or-on, or_off}
use Rattle.transfer.specs.read.ReadChange.{drained_effect}
use Rattle.transfer.proofs.change.Changes.{kept-changes, moved-changes}
use Rattle.transfer.proofs.read.drain.Goals as goal

pub returns-then-peek : goal.returns-then-peek
returns-then-peek c =
    let a = c.args in
    kept-changes _ (drained_effect (own a.one a.p) (peer a.one a.p)) _ (sym (or-on _ _ c.if-peek.true))

pub returns : goal.returns
unfolding leaving
returns c =
    let a = c.args in
    let none = or_off _ _ _ c.if-peek.false (sym (ne_eqb _ _ c.requires.0)) in
    moved-changes _ (drained_effect (own a.one a.p) (peer a.one a.p)) _ c.drained.result (sym none) (rw c.pick-n.ensures at c.drained.ensures)
