-- How the code goes: the words of both ends are changed first, and the waits of each change are visited last. That the pair is the same as where each
-- change fires as it happens is the law of the crate socket. 01 "Signal word and packets".
use Rattle.std.specs.Prelude.{Bool, not, List, [], ◌∷◌, drop}
use Rattle.definition.specs.declared.Endpoint.{Endpoint}
use Rattle.definition.specs.Signal.{changed_word}
use Rattle.definition.specs.Pair.{with_signals}
use Rattle.definition.specs.Effect.{WordChange, no_change, own_word, peer_word, Effect}
use Rattle.endpoint.specs.declared.ends.Pending.{Pending}
use Rattle.endpoint.specs.declared.ends.Visits.{Visits}
use Rattle.endpoint.specs.declared.ends.Moved.{Moved}
use Rattle.endpoint.specs.ends.Outcome.{no_visit, no_visits}

-- the caller's end after a change
unfoldable pub own_changed : WordChange → Endpoint → Endpoint
own_changed no_change a = a
own_changed (own_word clear set) a = with_signals (changed_word clear set a.signals) a
own_changed (peer_word clear set) a = a

-- its peer after a change
unfoldable pub peer_changed : WordChange → Endpoint → Endpoint
peer_changed no_change b = b
peer_changed (own_word clear set) b = b
peer_changed (peer_word clear set) b = with_signals (changed_word clear set b.signals) b

-- the visit of a change by end t, from the ends before it
unfoldable pub visit_of : Bool → WordChange → (own peer : Endpoint) → Pending
visit_of t no_change a b = no_visit
visit_of t (own_word clear set) a b = record { one = t; word = a.signals; clear = clear; set = set }
visit_of t (peer_word clear set) a b = record { one = not t; word = b.signals; clear = clear; set = set }

-- the caller's end after each change, and its peer
unfoldable pub own_after : List WordChange → Endpoint → Endpoint
own_after [] a = a
own_after (c ∷ cs) a = own_after cs (own_changed c a)

unfoldable pub peer_after : List WordChange → Endpoint → Endpoint
peer_after [] b = b
peer_after (c ∷ cs) b = peer_after cs (peer_changed c b)

-- the visit of each change
unfoldable pub visits_of : Bool → List WordChange → (own peer : Endpoint) → List Pending
visits_of t [] a b = []
visits_of t (c ∷ cs) a b = visit_of t c a b ∷ visits_of t cs (own_changed c a) (peer_changed c b)

-- the first two of them
unfoldable pub first_two : List Pending → Visits
first_two [] = no_visits
first_two (v ∷ []) = record { first = v; second = no_visit }
first_two (v ∷ w ∷ vs) = record { first = v; second = w }

-- the two ends after a call with this effect, and its first two visits
unfoldable pub moved_by : Bool → Effect → Moved
moved_by t e =
    record {
      own = own_after e.changes e.own;
      peer = peer_after e.changes e.peer;
      visits = first_two (visits_of t e.changes e.own e.peer);
    }

-- the third and the fourth, which only a disposition has
unfoldable pub more_by : Bool → Effect → Visits
more_by t e = first_two (drop 2 (visits_of t e.changes e.own e.peer))
