use mathlib.Core.Path.{◌∙◌}
use Rattle.script_call.proofs.plain_call.Steps.{steps_are}
use Rattle.definition_script.specs.Call.{cancel_step}
use Rattle.script_call.proofs.plain_call.cancel.Goals as goal

pub returns : goal.returns
unfolding cancel_step
returns c =
    rw (← c.u32_at-handle.ensures, ← c.u64_at-key.ensures)
    (c.into.ensures ∙ steps_are c.cancel.ensures)
