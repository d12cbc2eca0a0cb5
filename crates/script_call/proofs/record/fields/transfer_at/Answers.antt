use mathlib.Core.Path.{refl}
use Rattle.definition_script.specs.Record.{transfer_of}
use Rattle.script_call.proofs.record.fields.transfer_at.Goals as goal

pub returns : goal.returns
unfolding transfer_of
returns c = rw (← c.u32_at.ensures, ← c.u32_at-2.ensures, ← c.u64_at.ensures, ← c.u64_at-2.ensures, ← c.u64_at-3.ensures) refl
