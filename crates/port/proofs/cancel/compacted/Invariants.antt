use Prim.Native.Nat.{◌≤◌, ◌<◌}
use mathlib.Core.Path.{◌≡◌}
use lib.ListN.{length, take}
use Rattle.definition.specs.Port.{filter, free}
use Rattle.port.proofs.waits.Compact.{Compacted}
use Rattle.port.proofs.cancel.Kept.{keeps}
use Rattle.port.proofs.cancel.compacted.Given as goal

-- The places below i are visited: those kept stand together from the first on, and the places from n to i are free. Once the packets are visited, m of
-- those kept are packets.
abbrev pub invariant-loop-i : goal.invariant-loop-i
invariant-loop-i l =
    Compacted (keeps l.one l.key) free l.initial.out.table 0 l.used l.out.table l.n l.i
    × (((l.packets < l.i → l.m ≡ length (filter (keeps l.one l.key) (take l.packets l.initial.out.table))) × (l.packets ≤ l.used)) × (l.used ≤ 128))
