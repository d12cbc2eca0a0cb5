use mathlib.Core.Path.{◌∙◌}
use Rattle.script_call.proofs.plain_call.Steps.{steps_are}
use Rattle.definition_script.specs.Call.{write_threshold_step}
use Rattle.script_call.proofs.plain_call.set_write_threshold.Goals as goal

pub returns : goal.returns
unfolding write_threshold_step
returns c =
    rw (← c.u32_at-handle.ensures, ← c.u64_at-threshold.ensures)
    (c.into.ensures ∙ steps_are c.set_write_threshold.ensures)
