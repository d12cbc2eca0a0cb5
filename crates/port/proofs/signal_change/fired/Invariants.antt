use Rattle.definition.specs.Port.{observe, fires}
use Rattle.port.proofs.signal_change.Partition.{Partitioned}
use Prim.Native.Nat.{◌≤◌}
use Rattle.port.proofs.signal_change.fired.Given as goal

-- The waits from i on are visited: those that fire stand from the packets on, newest first, and the kept ones end at the last used place.
abbrev pub invariant-loop-i : goal.invariant-loop-i
invariant-loop-i l =
    Partitioned (fires l.one l.word) (observe l.word) l.t.table l.packets l.used l.out.table l.front l.back l.i × (l.used ≤ 128)
