use native.Mathlib.Omega.{arith}
use Rattle.definition_script.specs.Line.{added_text, record_text}
use Rattle.text.proofs.Writers.{appends_up_to, appends_nothing}
use Rattle.line.proofs.line.added.Goals as goal

pub returns-in-Ok-Count : goal.returns-in-Ok-Count
unfolding added_text record_text
returns-in-Ok-Count c = let k = c.in-Ok-Count in rw (k.is, rw k.is at k.field-0-is) c.bytes.ensures

pub returns-in-Ok-Info : goal.returns-in-Ok-Info
unfolding added_text record_text
returns-in-Ok-Info c = let k = c.in-Ok-Info in rw (k.is, rw k.is at k.field-0-is) (appends_up_to 8193 (omega arith) c.info.ensures)

pub returns-in-Ok-Packet : goal.returns-in-Ok-Packet
unfolding added_text record_text
returns-in-Ok-Packet c = let k = c.in-Ok-Packet in rw (k.is, rw k.is at k.field-0-is) (appends_up_to 8193 (omega arith) c.packet.ensures)

pub returns-in-Ok-Empty : goal.returns-in-Ok-Empty
unfolding added_text record_text
returns-in-Ok-Empty c = let k = c.in-Ok-Empty in rw (k.is, rw k.is at k.field-0-is) (appends_nothing 8193 c.args.to.now)

pub returns-in-Ok-Limits : goal.returns-in-Ok-Limits
unfolding added_text record_text
returns-in-Ok-Limits c = let k = c.in-Ok-Limits in rw (k.is, rw k.is at k.field-0-is) (appends_nothing 8193 c.args.to.now)

pub returns-in-Err : goal.returns-in-Err
unfolding added_text
returns-in-Err c = rw c.in-Err.is (appends_nothing 8193 c.args.to.now)
