use borrow.Author.Rules.{rules}
use mathlib.Core.Path.{◌≡◌, ◌∙◌}
use Rattle.definition.specs.Pair.{is_one}
use Rattle.script_call.proofs.plain_call.Steps.{steps_are, own_table-one, own_table-two}
use Rattle.definition_script.specs.Call.{rings, own_table, info_by, info_step}
use Rattle.script_call.proofs.plain_call.info_over.Goals.{in-1, in_default}
use Rattle.script_call.proofs.plain_call.info_over.Goals as goal

pub returns : goal.returns
unfolding info_by info_step
returns c =
    let a = c.args in
    let z = rings a.ring_one.now a.table_one.now a.ring_two.now a.table_two.now in
    let h = c.u32_at-handle.result in
    let own : own_table (is_one h) z ≡ c.match-handle.table.now = elim c.match-handle.branch [
      | in-1 w ↦ rw w.table-is (own_table-one z h w.in-1.is)
      | in_default w ↦ rw w.table-is (own_table-two z h (search rules))
    ]
    in
    rw (← c.u32_at-handle.ensures, own)
    (c.into.ensures ∙ steps_are c.get_info.ensures)
