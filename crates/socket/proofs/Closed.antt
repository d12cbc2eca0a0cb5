-- A call that drops the waits of its end before it visits those of its peer, as close does. Assumes nothing.
use Prim.Native.Nat.{ℕ, ◌≤◌}
use mathlib.Core.Path.{◌≡◌, refl, sym, ap, ◌∙◌}
use mathlib.Core.Bool.{Bool, true, false, not, false≢true}
use mathlib.Core.Logic.{⊎_elim}
use lib.ListN.{length}
use lib.Dec.{eqb}
use borrow.Author.Tests.{eqb-true}
use Rattle.definition.specs.Status.{Answer}
use Rattle.definition.specs.declared.Pair.{Pair}
use Rattle.definition.specs.declared.Places.{Places}
use Rattle.definition.specs.declared.Next.{Next}
use Rattle.definition.specs.Status.{pick}
use Rattle.definition.specs.Pair.{with_places}
use Rattle.definition.specs.Port.{sound, done, dropped_of, drop_of}
use Rattle.definition.specs.Effect.{Effect, applied}
use Rattle.port.proofs.places.Lists.{either}
use Rattle.port.proofs.waits.Operations.{drop-done}
use Rattle.port.proofs.waits.Idle.{idle_drop}
use Rattle.port.proofs.waits.Sound.{sound-drop}
use Rattle.endpoint.specs.declared.ends.Visits.{Visits}
use Rattle.endpoint.specs.declared.ends.EndsOutcome.{EndsOutcome}
use Rattle.endpoint.specs.ends.Outcome.{can_fire, outcome_of}
use Rattle.control.specs.ByEffect.{done_outcome}
use Rattle.socket.specs.Deferred.{visited_pair, visited_all, with_ends, with_outcome, settled_step, without_waits, closed_waits, settled_close}
use Rattle.socket.proofs.Visiting.{applied-from, cannot_fire, settled_pair}

-- the waits may be dropped once the ends are replaced
pub closed_later : (t : Bool) (r : EndsOutcome) (p : Pair) → closed_waits t r (with_outcome r p) ≡ (settled_close t r p).pair
unfolding closed_waits settled_close settled_step without_waits with_places with_ends pick
closed_later t r p = by r.fires
  where
    by : (f : Bool) → pick f (visited_all r (without_waits t (with_outcome r p))) (with_outcome r p)
        ≡ pick f (visited_all r (with_outcome r (pick f (without_waits t p) p))) (with_outcome r (pick f (without_waits t p) p))
    by true = refl
    by false = refl

-- ---- where there are no waits, nothing is to be done with them

none : (n : ℕ) → not (eqb n 0) ≡ false → n ≡ 0
none n e = ⊎_elim (λ (z : eqb n 0 ≡ true). eqb-true n 0 z) (λ (z : eqb n 0 ≡ false). absurd (false≢true (sym (rw z at e)))) (either (eqb n 0))

none-fires : (n : ℕ) (v : Visits) → n ≡ 0 → can_fire n v ≡ false
unfolding can_fire pick
none-fires n v e = rw e refl

no_waits : (t : Bool) (r : EndsOutcome) (p : Pair) → length p.places.table ≡ 128 → p.places.waits ≡ 0 → visited_all r (without_waits t p) ≡ p
unfolding visited_all without_waits with_places
no_waits t r p l w =
    ap (λ (u : Places). visited_pair r.more (visited_pair r.visits (with_places u p))) (idle_drop t p.places w l)
    ∙ ap (visited_pair r.more) (cannot_fire r.visits p l (none-fires _ r.visits w))
    ∙ cannot_fire r.more p l (none-fires _ r.more w)

-- ---- the waits dropped, then the changes visited

dropped : (t : Bool) (p : Pair) → sound p.places ≡ true → dropped_of t p.places ≡ (drop_of t p.places).places
unfolding done
dropped t p s = ap (λ (n : Next). n.places) (sym (drop-done t p.places s))

taken : {A : Type 0} (d : Bool) (x y : A) → d ≡ true → pick d x y ≡ x
unfolding pick
taken d x y e = rw e refl

-- the step, by what is left of the pair once the waits are dropped and the others visited
closing : (t : Bool) (r : EndsOutcome) (p q : Pair) → length p.places.table ≡ 128 → r.fires ≡ not (eqb p.places.waits 0)
    → visited_all r (without_waits t (with_outcome r p)) ≡ q → settled_close t r p ≡ record { pair = q; answer = r.answer }
unfolding settled_close settled_step closed_waits with_ends
closing t r p q l f g =
    ap (λ (k : Pair). record { pair = k; answer = r.answer })
    (sym (closed_later t r p)
    ∙ settled_pair r.fires (visited_all r (without_waits t (with_outcome r p))) (with_outcome r p) (λ z. no_waits t r (with_outcome r p) l (none _ (sym f ∙ z)))
    ∙ g)

pub settled_dropping : (t : Bool) (e : Effect) (a : Answer) (p : Pair) → length p.places.table ≡ 128 → e.drops ≡ true → length e.changes ≤ 4 → sound p.places ≡ true
    → settled_close t (done_outcome p.places.waits t a e) p ≡ record { pair = applied t e p; answer = a }
unfolding done_outcome outcome_of visited_all without_waits with_ends with_places
settled_dropping t e a p l d n s =
    closing t (done_outcome p.places.waits t a e) p _ l (taken e.drops _ _ d)
    (applied-from t e p (drop_of t p.places).places (taken e.drops _ _ d ∙ dropped t p s) (sound-drop p.places s t) n)
