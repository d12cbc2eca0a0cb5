use Rattle.script_call.proofs.plain_call.Steps.{steps_are}
use Rattle.definition_script.specs.Call.{disposition_step}
use Rattle.script_call.proofs.plain_call.set_disposition.Goals as goal

pub returns : goal.returns
unfolding disposition_step
returns c =
    rw (← c.u32_at-handle.ensures, ← c.u32_at-own.ensures, ← c.u32_at-peer.ensures)
    (steps_are c.set_disposition.ensures)
