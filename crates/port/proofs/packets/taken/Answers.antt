use Prim.Native.Nat.{◌+◌, ◌-◌, ◌≤◌, ◌<◌}
use mathlib.Core.Path.{◌≡◌, ◌∙◌}
use native.Mathlib.Omega.{arith}
use lib.ListN.{length, take, length-drop}
use lib.Seq.{slice, length-slice, length-take-le}
use Rattle.definition.specs.Port.{free, packets_of, waits_of, unused_of, table_of, taken_of}
use Rattle.endpoint.proofs.answer.Rules.{via}
use Rattle.port.proofs.packets.Operations.{take_possible, take_if_on}
use Rattle.port.proofs.places.Shift.{moved_down}
use Rattle.port.proofs.places.Size.{table_128, same-places}
use Rattle.port.proofs.packets.taken.Goals as goal

pub returns-then-has_packet : goal.returns-then-has_packet
unfolding taken_of table_of packets_of waits_of unused_of
returns-then-has_packet c =
    let a = c.args in
    let t = a.t in
    let e = via c.has_packet.ensures c.if-has_packet.true in
    let h = take_possible a.asked t e in
    let p = t.packets in
    let u = t.packets + t.waits in
    let l : length t.table ≡ 128 = table_128 t _ c.well_formed.0 in
    let k : u ≤ 128 = h.0 in
    let some : 0 < p = h.1 in
    let size : length (take p t.table) ≡ p = length-take-le p t.table (omega arith) in
    let rest : length (slice p u t.table) ≡ u - p = length-slice p u t.table (omega arith) in
    rw c.copy_within.ensures.after
    (same-places (omega (arith, length-drop 1 (take p t.table))) (omega arith) (moved_down t.table p u free some (omega arith) (omega arith)))
    ∙ take_if_on a.asked t e
