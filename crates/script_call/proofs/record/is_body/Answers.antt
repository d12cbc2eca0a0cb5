use mathlib.Core.Path.{sym}
use Rattle.script_call.proofs.record.Tags.{no_body}
use Rattle.script_call.proofs.record.is_body.Goals as goal

pub returns-in-Err : goal.returns-in-Err
returns-in-Err c = sym (no_body c.args.tag c.args.n c.in-Err.ensures.1)
