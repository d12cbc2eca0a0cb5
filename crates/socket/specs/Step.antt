-- What a method of the pair hands back, as the record that the definitions speak of. 01 "What must change shape": each operation takes the pair and
-- hands the next one back.
use Rattle.definition.specs.declared.Step.{Step}
use Rattle.socket.specs.declared.SocketStep.{SocketStep}

-- the record of the next pair, and the answer
abbrev pub inner_step : SocketStep → Step
inner_step r = record { pair = r.pair.inner; answer = r.answer }
