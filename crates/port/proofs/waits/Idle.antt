-- Where there are no waits, dropping an end's leaves the table as it is. Assumes nothing.
use Prim.Native.Nat.{ℕ, ◌-◌}
use mathlib.Core.Path.{◌≡◌, refl, ap, ◌∙◌}
use mathlib.Core.Bool.{Bool, true, false}
use mathlib.Core.Logic.{⊎_elim}
use mathlib.Core.List.{[], ◌++◌}
use lib.ListN.{length, replicate}
use borrow.Author.Tests.{leb-true}
use Rattle.definition.specs.declared.Places.{Places}
use Rattle.definition.specs.Port.{free, sound, packets_of, unused_of, table_of, refused, done, dropped_of, drop_of, others, filter}
use Rattle.port.proofs.places.Lists.{either}
use Rattle.port.proofs.waits.Operations.{drop_unsound, drop-done}
use Rattle.port.proofs.places.Views.{as_table, none_waiting}

pub dropped_idle : (one : Bool) (t : Places) → t.waits ≡ 0 → length t.table ≡ 128 → sound t ≡ true → dropped_of one t ≡ t
unfolding dropped_of others filter
dropped_idle one t e l s =
    let none = none_waiting t e in
    rw none
    (ap (λ (n : ℕ). table_of (packets_of t) [] (replicate (n - 0) free ++ unused_of t)) e
    ∙ rw none at (as_table t (rw l (leb-true _ _ s))))

-- for every table
pub idle_drop : (one : Bool) (t : Places) → t.waits ≡ 0 → length t.table ≡ 128 → (drop_of one t).places ≡ t
unfolding done refused
idle_drop one t e l =
    ⊎_elim
    (λ (s : sound t ≡ true). rw (drop-done one t s) (dropped_idle one t e l s))
    (λ (s : sound t ≡ false). rw (drop_unsound one t s) refl)
    (either (sound t))
