use mathlib.Core.Path.{sym, ◌∙◌}
use Rattle.definition_script.specs.declared.Decoded.TheVariants.{Whole, Bad, Cut}
use Rattle.feed.proofs.Turns.{next_ended, next-from, next_misplaced, next-placed}
use Rattle.feed.specs.Turn.{placed}
use Rattle.feed.proofs.turn.next.Goals as goal

pub returns-then-ended : goal.returns-then-ended
returns-then-ended c = next_ended _ _ _ c.if-ended.true

pub returns-in-Cut : goal.returns-in-Cut
unfolding placed
returns-in-Cut c = next-from c.args.ended c.args.number c.args.from c.args.input.now c.decode.result Cut c.if-ended.false c.requires c.decode.ensures c.in-Cut.is

pub returns-in-Bad : goal.returns-in-Bad
unfolding placed
returns-in-Bad c = next-from c.args.ended c.args.number c.args.from c.args.input.now c.decode.result Bad c.if-ended.false c.requires c.decode.ensures c.in-Bad.is

pub returns-in-Whole : goal.returns-in-Whole
returns-in-Whole c =
    let a = c.args in
    let w = c.in-Whole in
    next_misplaced a.number w.tag w.field-1 (sym c.is_misplaced.ensures ∙ c.if-is_misplaced.true)
    ∙ next-from a.ended a.number a.from a.input.now c.decode.result (Whole w.tag w.field-1) c.if-ended.false c.requires c.decode.ensures w.is

pub returns-in-Whole-2 : goal.returns-in-Whole-2
returns-in-Whole-2 c =
    let a = c.args in
    let w = c.in-Whole in
    next-placed a.number w.tag w.field-1 (sym c.is_misplaced.ensures ∙ c.if-is_misplaced.false)
    ∙ next-from a.ended a.number a.from a.input.now c.decode.result (Whole w.tag w.field-1) c.if-ended.false c.requires c.decode.ensures w.is
