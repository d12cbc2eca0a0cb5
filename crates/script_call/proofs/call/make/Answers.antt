use mathlib.Core.Path.{refl}
use Rattle.script_call.proofs.call.Calls.{write_call_lem, read_call_lem, plain_made}
use Rattle.definition_script.specs.Call.{control_step}
use Rattle.definition.specs.Status.{pick}
use Rattle.script_call.proofs.call.make.Goals as goal

pub returns-in-Write-clause-made : goal.returns-in-Write-clause-made
returns-in-Write-clause-made c = rw c.in-Write.is (write_call_lem _ _ _ _ _ _ _ _ refl (rw (← c.transfer_at.ensures) c.write.ensures.made))

pub returns-in-Read-clause-made : goal.returns-in-Read-clause-made
returns-in-Read-clause-made c = rw c.in-Read.is (read_call_lem _ _ _ _ _ _ _ _ refl (rw (← c.transfer_at-in-Read.ensures) c.read.ensures.made))

pub returns-in-Fill-clause-made : goal.returns-in-Fill-clause-made
returns-in-Fill-clause-made c = rw c.in-Fill.is c.fill_step.ensures.made

pub returns-in-Create-clause-made : goal.returns-in-Create-clause-made
unfolding control_step pick
returns-in-Create-clause-made c = rw c.in-Create.is (plain_made _ _ _ 0 _ _ refl refl refl c.create.ensures)

pub returns-in-SetDisposition-clause-made : goal.returns-in-SetDisposition-clause-made
unfolding control_step pick
returns-in-SetDisposition-clause-made c = rw c.in-SetDisposition.is (plain_made _ _ _ 3 _ _ refl refl refl c.set_disposition.ensures)

pub returns-in-Shutdown-clause-made : goal.returns-in-Shutdown-clause-made
unfolding control_step pick
returns-in-Shutdown-clause-made c = rw c.in-Shutdown.is (plain_made _ _ _ 4 _ _ refl refl refl c.shutdown.ensures)

pub returns-in-SetReadThreshold-clause-made : goal.returns-in-SetReadThreshold-clause-made
unfolding control_step pick
returns-in-SetReadThreshold-clause-made c = rw c.in-SetReadThreshold.is (plain_made _ _ _ 5 _ _ refl refl refl c.set_read_threshold.ensures)

pub returns-in-SetWriteThreshold-clause-made : goal.returns-in-SetWriteThreshold-clause-made
unfolding control_step pick
returns-in-SetWriteThreshold-clause-made c = rw c.in-SetWriteThreshold.is (plain_made _ _ _ 6 _ _ refl refl refl c.set_write_threshold.ensures)

pub returns-in-GetInfo-clause-made : goal.returns-in-GetInfo-clause-made
unfolding control_step pick
returns-in-GetInfo-clause-made c = rw c.in-GetInfo.is (plain_made _ _ _ 7 _ _ refl refl refl c.get_info.ensures)

pub returns-in-Close-clause-made : goal.returns-in-Close-clause-made
unfolding control_step pick
returns-in-Close-clause-made c = rw c.in-Close.is (plain_made _ _ _ 8 _ _ refl refl refl c.close.ensures)

pub returns-in-Wait-clause-made : goal.returns-in-Wait-clause-made
unfolding control_step pick
returns-in-Wait-clause-made c = rw c.in-Wait.is (plain_made _ _ _ 9 _ _ refl refl refl c.wait.ensures)

pub returns-in-Take-clause-made : goal.returns-in-Take-clause-made
unfolding control_step pick
returns-in-Take-clause-made c = rw c.in-Take.is (plain_made _ _ _ 10 _ _ refl refl refl c.take.ensures)

pub returns-in-Cancel-clause-made : goal.returns-in-Cancel-clause-made
unfolding control_step pick
returns-in-Cancel-clause-made c = rw c.in-Cancel.is (plain_made _ _ _ 12 _ _ refl refl refl c.cancel.ensures)
