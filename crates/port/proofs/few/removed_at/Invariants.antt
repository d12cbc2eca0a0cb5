use Prim.Native.Nat.{◌≤◌}
use mathlib.Core.Path.{◌≡◌}
use mathlib.Core.List.{◌++◌}
use lib.Dec.{ltb}
use lib.ListN.{take, drop}
use Rattle.definition.specs.Status.{pick}
use Rattle.definition.specs.Port.{free}
use Rattle.port.specs.few.Few.{removed_at}
use Rattle.port.proofs.few.removed_at.Given as goal

abbrev pub invariant-loop-i : goal.invariant-loop-i
invariant-loop-i l =
    (l.out.table ≡ take l.i (pick (ltb l.last 8) (removed_at l.k l.last free l.t.table) l.t.table) ++ drop l.i l.t.table)
    × (((l.out.packets ≡ l.t.packets) × (l.out.waits ≡ l.t.waits)) × (l.i ≤ 8))
