use mathlib.Core.Path.{sym, ◌∙◌}
use Rattle.port.specs.places.Table.{only_packet}
use Rattle.port.proofs.places.First.{both-on}
use Rattle.port.proofs.places.Size.{table_128}
use Rattle.port.proofs.packets.Only.{taken-on}
use Rattle.port.proofs.packets.only_taken.Goals as goal

pub returns-then-is_only_packet : goal.returns-then-is_only_packet
unfolding only_packet
returns-then-is_only_packet c =
    taken-on c.args.asked c.args.t (table_128 c.args.t _ c.well_formed.0)
    (both-on _ _ c.if-asked.true (sym c.is_only_packet.ensures ∙ c.if-is_only_packet.true))
