-- What the stored pair is, by the way that the code went. Assumes nothing.
use Prim.Native.Nat.{ℕ}
use mathlib.Core.Path.{◌≡◌, refl, sym, ap, ◌∙◌}
use mathlib.Core.Bool.{true, false}
use lib.ListN.{length}
use Rattle.definition.specs.Status.{pick}
use Rattle.endpoint.proofs.answer.Rules.{pick-on, pick_off}
use Rattle.port.specs.places.Table.{only_wait}
use Rattle.endpoint.specs.declared.ends.EndsOutcome.{EndsOutcome}
use Rattle.definition.specs.declared.Pair.{Pair}
use Rattle.definition.specs.Pair.{is_one}
use Rattle.socket.specs.Deferred.{needs_visit, visited_all, with_outcome, settled_step, without_waits, closed_waits, settled_close}
use Rattle.socket.proofs.Needed.{need}
use Rattle.socket.proofs.Closed.{closed_later}

-- ---- the visit

pub each_visited : (r : EndsOutcome) (p q : Pair) → length p.places.table ≡ 128 → needs_visit r p.places ≡ true → q ≡ visited_all r p
    → q ≡ pick r.fires (visited_all r p) p
each_visited r p q l e g = g ∙ pick-on Pair (needs_visit r p.places) (visited_all r p) (visited_all r p) p e refl ∙ need r p l

pub only_visited : (r : EndsOutcome) (p q : Pair) → length p.places.table ≡ 128 → needs_visit r p.places ≡ true → only_wait p.places ≡ true
    → q ≡ pick (only_wait p.places) (visited_all r p) p → q ≡ pick r.fires (visited_all r p) p
only_visited r p q l e o g = each_visited r p q l e (g ∙ sym (pick-on Pair (only_wait p.places) (visited_all r p) (visited_all r p) p o refl))

pub not_visited : (r : EndsOutcome) (p : Pair) → length p.places.table ≡ 128 → needs_visit r p.places ≡ false → p ≡ pick r.fires (visited_all r p) p
not_visited r p l e = pick_off Pair (needs_visit r p.places) p (visited_all r p) p e refl ∙ need r p l

-- ---- an outcome

-- the step of a call whose pair was stored
pub settled_as : (r : EndsOutcome) (p q : Pair) → q ≡ (settled_step r p).pair → settled_step r p ≡ record { pair = q; answer = r.answer }
unfolding settled_step
settled_as r p q e = ap (λ (k : Pair). record { pair = k; answer = r.answer }) (sym e)

-- ---- a close

pub close_settled : (h : ℕ) (r : EndsOutcome) (p q q' : Pair) → q ≡ with_outcome r p → q' ≡ closed_waits (is_one h) r q → q' ≡ (settled_close (is_one h) r p).pair
close_settled h r p q q' e g = g ∙ ap (closed_waits (is_one h) r) e ∙ closed_later (is_one h) r p

pub closed_as : (h : ℕ) (r : EndsOutcome) (p q : Pair) → q ≡ (settled_close (is_one h) r p).pair → settled_close (is_one h) r p ≡ record { pair = q; answer = r.answer }
unfolding settled_close
closed_as h r p q e = settled_as r (pick r.fires (without_waits (is_one h) p) p) q e
