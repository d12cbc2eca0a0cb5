use mathlib.Core.Path.{◌∙◌}
use Rattle.script_call.proofs.plain_call.Steps.{steps_are}
use Rattle.definition_script.specs.Call.{close_step}
use Rattle.script_call.proofs.plain_call.close.Goals as goal

pub returns : goal.returns
unfolding close_step
returns c =
    rw (← c.u32_at-handle.ensures)
    (c.into.ensures ∙ steps_are c.close.ensures)
