-- Where no wait of the end meets its new word, firing leaves the table as it is. Assumes nothing.
use Prim.Native.Nat.{ℕ, ◌≤◌}
use mathlib.Core.Path.{◌≡◌, refl, ap, ◌∙◌}
use mathlib.Core.Bool.{Bool, true, false}
use mathlib.Core.Logic.{⊎_elim}
use mathlib.Core.List.{append-nil}
use lib.ListN.{length}
use lib.Dec.{eqb}
use borrow.Author.Tests.{leb-true}
use Rattle.definition.specs.Status.{pick, ◌and◌}
use Rattle.definition.specs.declared.Places.{Places}
use Rattle.definition.specs.Signal.{changed_word}
use Rattle.definition.specs.Port.{used, sound, packets_of, waits_of, fires, any_fires, fires_of, fired_of, change_of, fired, kept, any}
use Rattle.port.proofs.places.Lists.{either, filter_none, filter-all}
use Rattle.port.proofs.signal_change.Operations.{change_unsound, change_sound}
use Rattle.port.proofs.places.Views.{as_table, none_waiting}

-- ---- the waits of a table

and-false : (b : Bool) → b and false ≡ false
unfolding ◌and◌
and-false true = refl
and-false false = refl

same-either : (b : Bool) {t u : Places} → u ≡ t → pick b t u ≡ t
unfolding pick
same-either true e = refl
same-either false e = e

pub idle : (one : Bool) (w : ℕ) (t : Places) → used t ≤ length t.table → any_fires one w (waits_of t) ≡ false → fired_of one w t ≡ t
unfolding fired_of fired kept any_fires
idle one w t h e =
    rw (filter_none (fires one w) (waits_of t) e, filter-all (fires one w) (waits_of t) e, append-nil (packets_of t)) (as_table t h)

pub no_waits : (one : Bool) (w : ℕ) (t : Places) → t.waits ≡ 0 → any_fires one w (waits_of t) ≡ false
unfolding any_fires any
no_waits one w t e = rw (none_waiting t e) refl

pub nothing-fires : (one : Bool) (w : ℕ) (t : Places) → t.waits ≡ 0 → fires_of one w t ≡ false
unfolding fires_of
nothing-fires one w t e = rw (no_waits one w t e) (and-false (sound t))

-- ---- a change of an end's word

-- a change that fires nothing leaves the table as it is
pub idle_change : (one : Bool) (w clear set : ℕ) (t : Places) → length t.table ≡ 128 → fires_of one (changed_word clear set w) t ≡ false
    → (change_of one w clear set t).places ≡ t
unfolding fires_of ◌and◌
idle_change one w clear set t l e =
    ⊎_elim
    (λ (s : sound t ≡ true).
    ap (λ c. c.places) (change_sound one w clear set t s)
    ∙ same-either (eqb (changed_word clear set w) w) (idle one (changed_word clear set w) t (rw l (leb-true _ _ s)) (rw s at e)))
    (λ (s : sound t ≡ false). ap (λ c. c.places) (change_unsound one w clear set t s))
    (either (sound t))
