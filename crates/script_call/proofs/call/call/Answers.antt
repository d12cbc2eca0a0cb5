use mathlib.Core.Path.{refl}
use Rattle.script_call.proofs.call.Calls.{no_call}
use Rattle.script_call.proofs.record.Tags.{no_body}
use Rattle.script_call.proofs.call.call.Goals as goal

pub returns-in_default-2-clause-made : goal.returns-in_default-2-clause-made
returns-in_default-2-clause-made c = no_call (no_body c.args.tag _ c.in_default.ensures.1) refl
