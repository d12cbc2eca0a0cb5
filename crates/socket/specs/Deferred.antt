-- How the code goes: a call whose waits are visited last, and a table that is passed on by whether the call is done. 01 "Signal word and packets":
-- a change of a word visits the end's waits. The laws of proofs/ say that the visits can wait until all words have changed.
use Rattle.std.specs.Prelude.{ℕ, Bool, not, List, [], ◌∷◌, eqb}
use Rattle.endpoint.specs.declared.ends.Pending.{Pending}
use Rattle.endpoint.specs.declared.ends.Visits.{Visits}
use Rattle.definition.specs.declared.Pair.{Pair}
use Rattle.endpoint.specs.declared.ends.EndsOutcome.{EndsOutcome}
use Rattle.definition.specs.declared.Places.{Places}
use Rattle.definition.specs.declared.Endpoint.{Endpoint}
use Rattle.definition.specs.declared.Step.{Step}
use Rattle.port.specs.visits.Visits.{visited, any_due}
use Rattle.definition.specs.Pair.{with_places, own, ends_of}
use Rattle.definition.specs.Status.{◌and◌, ◌or◌, pick}
use Rattle.definition.specs.Signal.{meets}
use Rattle.port.specs.places.Table.{only_wait}
use Rattle.port.specs.few.Few.{at_most_seven_used}
use Rattle.definition.specs.Port.{wait_of, appended_of, drop_of, register_of, take_of}

-- the table after the waits of each change are visited, in the order of the changes
unfoldable pub visited_by : List Pending → Places → Places
visited_by [] u = u
visited_by (v ∷ vs) u = visited_by vs (visited v u)

-- the pair after the waits of two changes are visited
unfoldable pub visited_pair : Visits → Pair → Pair
visited_pair v p = with_places (visited v.second (visited v.first p.places)) p

-- of all changes of a call
unfoldable pub visited_all : EndsOutcome → Pair → Pair
visited_all r p = visited_pair r.more (visited_pair r.visits p)

-- whether the waits are to be visited: one fires, or the only place used is a wait
unfoldable pub needs_visit : EndsOutcome → Places → Bool
needs_visit r t = r.fires and (only_wait t or any_due r t)

-- the pair with both ends replaced
unfoldable pub with_ends : (one two : Endpoint) → Pair → Pair
with_ends a b p = record { datagram = p.datagram; spare1 = p.spare1; spare2 = p.spare2; capacity = p.capacity; one = a; two = b; places = p.places }

-- the pair with the ends of an outcome
abbrev pub with_outcome : EndsOutcome → Pair → Pair
with_outcome r p = with_ends r.one r.two p

-- the step of a call with this outcome, once the waits are visited where one can fire
unfoldable pub settled_step : EndsOutcome → Pair → Step
settled_step r p = record { pair = pick r.fires (visited_all r (with_outcome r p)) (with_outcome r p); answer = r.answer }

-- 01 "Delivered bytes", close: the waits of end t are gone
unfoldable pub without_waits : Bool → Pair → Pair
without_waits t p = with_places (drop_of t p.places).places p

-- the pair without the waits of end t, where there are any, once the others are visited
unfoldable pub closed_waits : Bool → EndsOutcome → Pair → Pair
closed_waits t r p = pick r.fires (visited_all r (without_waits t p)) p

-- the step of a close with this outcome, by end t: its waits are gone before those of its peer are visited
unfoldable pub settled_close : Bool → EndsOutcome → Pair → Step
settled_close t r p = settled_step r (pick r.fires (without_waits t p) p)

-- 01 "Signal word and packets": the pair with a wait of end t more, where that is asked
unfoldable pub registered_pair : (asked t : Bool) → (key mask edge : ℕ) → Pair → Pair
registered_pair asked t key mask edge p =
    with_places (pick asked (register_of t (own t (ends_of p)).signals key mask (eqb edge 1) p.places).places p.places) p

-- 01 "Signal word and packets": the pair without its oldest packet, where that is asked
unfoldable pub taken_pair : (asked : Bool) → Pair → Pair
taken_pair asked p = with_places (pick asked (take_of p.places).places p.places) p

-- whether at most 7 places are used, and a wait of end t with this mask does not fire as it is registered
unfoldable pub appends_few : (t : Bool) → (mask edge : ℕ) → Pair → Bool
appends_few t mask edge p = not (not (eqb edge 1) and meets (own t (ends_of p)).signals mask) and at_most_seven_used p.places

-- the pair with a wait of end t behind the others, where that is asked and at most 7 places are used
unfoldable pub appended_pair : (asked t : Bool) → (key mask : ℕ) → Pair → Pair
appended_pair asked t key mask p = with_places (pick (asked and at_most_seven_used p.places) (appended_of (wait_of t key mask) p.places) p.places) p
