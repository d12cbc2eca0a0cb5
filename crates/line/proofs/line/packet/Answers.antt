use Rattle.definition_script.specs.Line.{packet_text}
use Rattle.text.proofs.Writers.{then_appends}
use Rattle.line.proofs.line.packet.Goals as goal

pub returns : goal.returns
unfolding packet_text
returns c = then_appends c.hex.ensures (then_appends c.hex-2.ensures c.hex-3.ensures)
