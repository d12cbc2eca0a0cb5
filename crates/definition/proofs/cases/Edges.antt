-- The tables of scripts, by computation. Assumes nothing.
use mathlib.Core.Path.{refl}
use Rattle.definition.specs.cases.Scripts.{script_lines}
use Rattle.definition.specs.cases.Edges.{AtTheEdges, table}
use Rattle.definition.specs.cases.Orders.{Orders, order_scripts, memories}
use Rattle.definition.specs.cases.Packets.{Packets, packet_scripts}
use Rattle.definition.specs.cases.Cancels.{CancelCases, cancel_scripts}
use Rattle.definition.specs.cases.Lines.{lines_of}

pub at_the_edges : AtTheEdges
unfolding table script_lines
at_the_edges = refl

pub in_order : Orders
unfolding order_scripts script_lines memories
in_order = record { lines = refl; memory = refl }

pub packets_in_order : Packets
unfolding packet_scripts script_lines
packets_in_order = refl

pub cancels_in_order : CancelCases
unfolding cancel_scripts script_lines lines_of
cancels_in_order = record { lines = refl; first = refl; second = refl; count = refl; no_count = refl; same = refl; rest = refl }
