use mathlib.Core.Path.{◌∙◌}
use Rattle.script_call.proofs.plain_call.Steps.{steps_are}
use Rattle.definition_script.specs.Call.{wait_step}
use Rattle.script_call.proofs.plain_call.wait.Goals as goal

pub returns : goal.returns
unfolding wait_step
returns c =
    rw (← c.u32_at-handle.ensures, ← c.u64_at-key.ensures, ← c.u32_at-mask.ensures, ← c.u8_at-edge.ensures)
    (c.into.ensures ∙ steps_are c.wait.ensures)
