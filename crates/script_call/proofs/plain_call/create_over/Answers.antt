use mathlib.Core.Path.{◌∙◌}
use Rattle.definition_script.specs.Call.{create_step}
use Rattle.script_call.proofs.plain_call.Steps.{steps_are}
use Rattle.script_call.proofs.plain_call.create_over.Goals as goal

pub returns : goal.returns
unfolding create_step
returns c =
    rw (← c.u32_at-kind.ensures, ← c.u32_at-capacity.ensures, ← c.u8_at-one.ensures, ← c.u8_at-two.ensures)
    (c.into.ensures ∙ steps_are c.create.ensures)
