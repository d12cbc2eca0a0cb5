use borrow.Author.Tests.{ne_eqb}
use mathlib.Core.Path.{◌∙◌}
use Rattle.definition_script.specs.Record.{is_last}
use Rattle.definition.specs.Status.{◌and◌}
use Rattle.script_call.proofs.record.Tags.{refused}
use Rattle.script_call.proofs.record.order.is_last.Goals as goal

pub returns-then-tag-eq-CREATE : goal.returns-then-tag-eq-CREATE
unfolding is_last ◌and◌
returns-then-tag-eq-CREATE c = rw c.if-tag-eq-CREATE.true (c.is_err.ensures.value ∙ refused c.args.a)

pub returns-else-tag-eq-CREATE : goal.returns-else-tag-eq-CREATE
unfolding is_last ◌and◌
returns-else-tag-eq-CREATE c = simp (ne_eqb _ _ c.if-tag-eq-CREATE.false)
