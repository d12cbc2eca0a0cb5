use Prim.Native.Nat.{◌+◌, ◌≤◌, ◌<◌}
use mathlib.Core.Path.{◌≡◌, refl, ◌∙◌}
use native.Mathlib.Omega.{arith}
use lib.ListN.{length}
use Rattle.definition.specs.Status.{pick}
use Rattle.port.proofs.places.Shift.{moved_up}
use Rattle.port.proofs.places.Size.{table_128, same-places}
use Rattle.port.proofs.waits.Insertion.{index_fits, placed_as}
use Rattle.port.proofs.waits.placed.Goals as goal

pub returns-then-room : goal.returns-then-room
unfolding pick
returns-then-room c =
    let a = c.args in
    let t = a.t in
    let u = t.packets + t.waits in
    let at = c.pick-at.result in
    let l : length t.table ≡ 128 = table_128 t _ c.well_formed.0 in
    let h : u < 128 = c.requires c.if-room.true in
    let k : at ≤ u = rw c.pick-at.ensures (index_fits a.packet t.packets t.waits) in
    rw (c.if-room.true, c.copy_within.ensures.after)
    (same-places refl refl (moved_up t.table at u a.p k (omega arith))
    ∙ placed_as t a.p a.packet at c.pick-more.result c.pick-at.ensures c.pick-more.ensures (omega arith))
