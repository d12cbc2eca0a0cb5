use Rattle.script_call.proofs.plain_call.Steps.{steps_are}
use Rattle.definition_script.specs.Call.{shutdown_step}
use Rattle.script_call.proofs.plain_call.shutdown.Goals as goal

pub returns : goal.returns
unfolding shutdown_step
returns c =
    rw (← c.u32_at-handle.ensures, ← c.u32_at-options.ensures)
    (steps_are c.shutdown.ensures)
