use Prim.Native.Nat.{◌+◌, ◌≤◌}
use Rattle.definition.specs.Port.{matches}
use Rattle.port.proofs.few.Searches.{Found}
use Rattle.port.proofs.few.only_match.Given as goal

-- The places from i on are looked at: n of them match, the first at k.
abbrev pub invariant-loop-i : goal.invariant-loop-i
invariant-loop-i l = Found (matches l.one l.key) l.t.table l.used l.i l.n l.k × ((l.n + l.i ≤ 8) × (l.used ≤ 8))
