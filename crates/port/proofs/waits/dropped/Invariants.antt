use Rattle.definition.specs.Port.{free, of_other}
use Rattle.port.proofs.waits.Compact.{Compacted}
use mathlib.Core.Path.{◌≡◌}
use Prim.Native.Nat.{◌≤◌}
use Rattle.port.proofs.waits.dropped.Given as goal

-- The waits below i are visited: those of the other end stand together behind the packets, and the places from n to i are free.
abbrev pub invariant-loop-i : goal.invariant-loop-i
invariant-loop-i l =
    Compacted (of_other l.one) free l.initial.out.table l.packets l.used l.out.table l.n l.i × ((l.out.packets ≡ l.packets) × (l.used ≤ 128))
