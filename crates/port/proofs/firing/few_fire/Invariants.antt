use Prim.Native.Nat.{min}
use mathlib.Core.Path.{◌≡◌}
use mathlib.Core.Bool.{false}
use lib.ListN.{take}
use Rattle.definition.specs.Port.{any, fires}
use Rattle.port.proofs.firing.few_fire.Given as goal

-- No wait below i fires.
abbrev pub invariant-loop-i : goal.invariant-loop-i
invariant-loop-i l = any (fires l.one l.word) (take (min l.i l.t.waits) l.t.table) ≡ false
