use mathlib.Core.Path.{refl}
use Rattle.script_call.proofs.call.Calls.{fill_call_lem, fill_done}
use Rattle.script_call.proofs.call.fill_step.Goals as goal

pub returns-clause-made : goal.returns-clause-made
returns-clause-made c = fill_call_lem _ _ _ _ _ _ _ _ refl (fill_done _ _ _ _ _ _ _ (c.fill-answer.ensures.made c.requires))
