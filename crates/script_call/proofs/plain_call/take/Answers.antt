use mathlib.Core.Path.{◌∙◌}
use Rattle.script_call.proofs.plain_call.Steps.{steps_are}
use Rattle.definition_script.specs.Call.{take_step}
use Rattle.script_call.proofs.plain_call.take.Goals as goal

pub returns : goal.returns
unfolding take_step
returns c =
    c.into.ensures ∙ steps_are c.take.ensures
