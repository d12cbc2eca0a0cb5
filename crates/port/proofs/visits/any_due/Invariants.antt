use mathlib.Core.Path.{◌≡◌}
use mathlib.Core.Bool.{false}
use lib.ListN.{take}
use Rattle.definition.specs.Port.{any}
use Rattle.endpoint.specs.declared.ends.Pending.{Pending}
use Rattle.port.specs.visits.Visits.{due}
use Rattle.port.proofs.visits.any_due.Given as goal

-- No change that was looked at is due.
abbrev pub invariant-loop-a : goal.invariant-loop-a
invariant-loop-a l = any (λ (a : Pending). due a l.t) (take l.a-index l.a-items) ≡ false
