-- The waits need no visit where none of them fires. Assumes nothing.
use mathlib.Core.Path.{◌≡◌, refl, sym, ap, ◌∙◌}
use mathlib.Core.Bool.{Bool, true, false}
use lib.ListN.{length}
use Rattle.definition.specs.Status.{pick, ◌and◌, ◌or◌}
use Rattle.definition.specs.declared.Places.{Places}
use Rattle.port.specs.places.Table.{only_wait}
use Rattle.endpoint.specs.declared.ends.EndsOutcome.{EndsOutcome}
use Rattle.port.specs.visits.Visits.{any_due, visited_each}
use Rattle.port.proofs.visits.Visiting.{none-due}
use Rattle.definition.specs.declared.Pair.{Pair}
use Rattle.definition.specs.Pair.{with_places}
use Rattle.socket.specs.Deferred.{needs_visit, visited_pair, visited_all, with_ends, with_outcome, settled_step}

-- the visits of all changes are those of the table
each_all : (r : EndsOutcome) (p : Pair) → with_places (visited_each r p.places) p ≡ visited_all r p
unfolding visited_all visited_pair visited_each with_places
each_all r p = refl

-- where no change fires a wait
pub need : (r : EndsOutcome) (p : Pair) → length p.places.table ≡ 128
    → pick (needs_visit r p.places) (visited_all r p) p ≡ pick r.fires (visited_all r p) p
unfolding needs_visit with_places pick ◌and◌ ◌or◌
need r p l = by r.fires (only_wait p.places) (any_due r p.places) refl
  where
    by : (f o d : Bool) → any_due r p.places ≡ d → pick (f and (o or d)) (visited_all r p) p ≡ pick f (visited_all r p) p
    by false o d e = refl
    by true true d e = refl
    by true false true e = refl
    by true false false e = sym (sym (each_all r p) ∙ ap (λ (t : Places). with_places t p) (none-due r p.places l e))

-- the pair of a settled call
pub settled_need : (r : EndsOutcome) (p : Pair) → length p.places.table ≡ 128
    → pick (needs_visit r (with_outcome r p).places) (visited_all r (with_outcome r p)) (with_outcome r p) ≡ (settled_step r p).pair
unfolding settled_step with_ends
settled_need r p l = need r (with_outcome r p) l
