use Prim.Native.Nat.{◌≤◌}
use mathlib.Core.Path.{◌≡◌}
use mathlib.Core.List.{◌++◌}
use lib.Dec.{ltb}
use lib.ListN.{take, drop, set}
use Rattle.definition.specs.Status.{pick}
use Rattle.port.proofs.few.with_place.Given as goal

abbrev pub invariant-loop-i : goal.invariant-loop-i
invariant-loop-i l =
    (l.out.table ≡ take l.i (pick (ltb l.at 8) (set l.t.table l.at l.p) l.t.table) ++ drop l.i l.t.table)
    × (((l.out.packets ≡ l.t.packets) × (l.out.waits ≡ l.t.waits)) × (l.i ≤ 8))
