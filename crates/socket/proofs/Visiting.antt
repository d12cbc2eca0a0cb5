-- The visit of the waits can wait until the words of both ends have changed. Assumes nothing.
use Prim.Native.Nat.{ℕ, suc, ◌≤◌}
use mathlib.Core.Path.{◌≡◌, refl, sym, ap, ◌∙◌}
use mathlib.Core.Bool.{Bool, true, false, not, false≢true}
use mathlib.Core.List.{List, [], ◌∷◌}
use mir.Val.{Val}
use denote.Laws.{Is}
use denote.Struct.Laws as LL
use native.Mathlib.Omega.{arith}
use lib.ListN.{length, drop}
use Rattle.definition.specs.Status.{Answer}
use Rattle.definition.specs.Status.{pick}
use Rattle.endpoint.proofs.answer.Chains.{neither}
use Rattle.definition.specs.declared.Places.{Places}
use Rattle.definition.specs.declared.Endpoint.{Endpoint}
use Rattle.definition.specs.Signal.{changed_word}
use Rattle.definition.specs.Port.{sound, change_of, dropped_of}
use Rattle.port.proofs.signal_change.Operations.{change_sound}
use Rattle.port.proofs.places.Size.{table_128}
use Rattle.port.proofs.waits.Sound.{sound_change}
use Rattle.definition.specs.Pair.{with_signals, with_end, with_places}
use Rattle.endpoint.specs.declared.ends.Pending.{Pending}
use Rattle.endpoint.specs.declared.ends.Visits.{Visits}
use Rattle.endpoint.specs.declared.ends.Moved.{Moved}
use Rattle.endpoint.specs.ends.Outcome.{no_visits, can_fire, any_can_fire, outcome_of}
use Rattle.endpoint.specs.ends.AtOnce.{own_changed, peer_changed, visit_of, own_after, peer_after, visits_of, first_two, moved_by, more_by}
use Rattle.definition.specs.declared.Pair.{Pair}
use Rattle.definition.specs.contracts.Pair as T
use Rattle.definition.proofs.Pair.TheLaws as T'
use Rattle.definition.specs.Effect.{WordChange, no_change, own_word, peer_word, Effect, with_change, signal_change, changed, changed_by_all, prepared, applied}
use Rattle.port.specs.visits.Visits.{visited}
use Rattle.port.proofs.visits.Visiting.{visited-none, cannot_fire as table-cannot-fire}
use Rattle.socket.specs.Deferred.{visited_by, visited_pair, visited_all, settled_step, with_ends}

-- ---- the law: each change as it happens, or the words first and the visits last

changed_word_lem : (one : Bool) (w clear set : ℕ) (t : Places) → sound t ≡ true → (change_of one w clear set t).word ≡ changed_word clear set w
changed_word_lem one w clear set t s = ap (λ c. c.word) (change_sound one w clear set t s)

-- the pair with these ends, the caller's and its peer, and these places
unfoldable pub placed : Bool → (own peer : Endpoint) → Places → Pair → Pair
placed t a b u p = with_places u (with_ends (pick t a b) (pick t b a) p)

-- one change
step : (t : Bool) (c : WordChange) (a b : Endpoint) (u : Places) (p : Pair) → sound u ≡ true
    → changed t c (placed t a b u p) ≡ placed t (own_changed c a) (peer_changed c b) (visited (visit_of t c a b) u) p
unfolding changed signal_change with_change placed own_changed peer_changed visit_of visited with_ends with_end with_places with_signals pick
step t no_change a b u p s = ap (λ (k : Places). placed t a b k p) (sym (visited-none u))
step true (own_word clear set) a b u p s = rw (changed_word_lem true a.signals clear set u s) refl
step true (peer_word clear set) a b u p s = rw (changed_word_lem false b.signals clear set u s) refl
step false (own_word clear set) a b u p s = rw (changed_word_lem false a.signals clear set u s) refl
step false (peer_word clear set) a b u p s = rw (changed_word_lem true b.signals clear set u s) refl

-- every change
all-steps : (t : Bool) (cs : List WordChange) (a b : Endpoint) (u : Places) (p : Pair) → sound u ≡ true
    → changed_by_all t cs (placed t a b u p) ≡ placed t (own_after cs a) (peer_after cs b) (visited_by (visits_of t cs a b) u) p
unfolding changed_by_all own_after peer_after visits_of visited_by visited
all-steps t [] a b u p s = refl
all-steps t (c ∷ cs) a b u p s =
    let v = visit_of t c a b in
    ap (changed_by_all t cs) (step t c a b u p s)
    ∙ all-steps t cs (own_changed c a) (peer_changed c b) (visited v u) p (sound_change u s v.one v.word v.clear v.set)

begun : (t : Bool) (e : Effect) (p : Pair) (u : Places) → with_places u (with_end t e.own (with_end (not t) e.peer p)) ≡ placed t e.own e.peer u p
unfolding placed with_ends with_end with_places pick
begun true e p u = refl
begun false e p u = refl

-- the law, for any effect of a call by end t; u is the table without the waits that the effect drops
pub at_once : (t : Bool) (e : Effect) (p : Pair) (u : Places) → pick e.drops (dropped_of t p.places) p.places ≡ u → sound u ≡ true
    → applied t e p ≡ placed t (own_after e.changes e.own) (peer_after e.changes e.peer) (visited_by (visits_of t e.changes e.own e.peer) u) p
unfolding applied prepared
at_once t e p u f s =
    ap (λ (k : Places). changed_by_all t e.changes (with_places k (with_end t e.own (with_end (not t) e.peer p)))) f
    ∙ ap (changed_by_all t e.changes) (begun t e p u)
    ∙ all-steps t e.changes e.own e.peer u p s

-- ---- the code's visits: two, and two more

pub visited-both : (v : Visits) (p : Pair) → visited v.first p.places ≡ p.places → visited v.second p.places ≡ p.places → visited_pair v p ≡ p
unfolding visited_pair with_places
visited-both v p e f = rw (e, f) refl

-- the pair after a call by end t: the ends that it moved, then the visits
abbrev pub moved_pair : Bool → Moved → Pair → Pair
moved_pair t d p = visited_pair d.visits (with_ends (pick t d.own d.peer) (pick t d.peer d.own) p)

by_twos : (vs : List Pending) (u : Places) → length vs ≤ 4
    → visited (first_two (drop 2 vs)).second (visited (first_two (drop 2 vs)).first (visited (first_two vs).second (visited (first_two vs).first u))) ≡ visited_by vs u
unfolding first_two visited_by
by_twos [] u l = rw (visited-none u, visited-none u, visited-none u, visited-none u) refl
by_twos (v ∷ []) u l = rw (visited-none (visited v u), visited-none (visited v u), visited-none (visited v u)) refl
by_twos (v ∷ w ∷ []) u l = rw (visited-none (visited w (visited v u)), visited-none (visited w (visited v u))) refl
by_twos (v ∷ w ∷ x ∷ []) u l = visited-none _
by_twos (v ∷ w ∷ x ∷ y ∷ []) u l = refl
by_twos (v ∷ w ∷ x ∷ y ∷ z ∷ vs) u l = absurd (omega (arith, l))

many : (t : Bool) (cs : List WordChange) (a b : Endpoint) → length (visits_of t cs a b) ≡ length cs
unfolding visits_of
many t [] a b = refl
many t (c ∷ cs) a b = ap (λ n. suc n) (many t cs (own_changed c a) (peer_changed c b))

keeps : (d : Bool) (u u' : Places) → d ≡ false → pick d u' u ≡ u
unfolding pick
keeps true u u' e = absurd (false≢true (sym e))
keeps false u u' e = refl

-- a call that has at most four changes; u is the table without the waits that it drops
pub applied-from : (t : Bool) (e : Effect) (p : Pair) (u : Places) → pick e.drops (dropped_of t p.places) p.places ≡ u → sound u ≡ true → length e.changes ≤ 4
    → visited_pair (more_by t e) (moved_pair t (moved_by t e) (with_places u p)) ≡ applied t e p
unfolding visited_pair moved_by more_by placed with_ends with_places
applied-from t e p u f s l =
    let vs = visits_of t e.changes e.own e.peer in
    ap (λ (k : Places). placed t (own_after e.changes e.own) (peer_after e.changes e.peer) k p) (by_twos vs u (rw (many t e.changes e.own e.peer) l))
    ∙ sym (at_once t e p u f s)

-- the same of one that drops no wait
pub applied-last : (t : Bool) (e : Effect) (p : Pair) → e.drops ≡ false → length e.changes ≤ 4 → sound p.places ≡ true
    → visited_pair (more_by t e) (moved_pair t (moved_by t e) p) ≡ applied t e p
unfolding with_places
applied-last t e p d l s = applied-from t e p p.places (keeps e.drops p.places _ d) s l

-- a call that changes no more than two words
pub no_visits_lem : (p : Pair) → visited_pair no_visits p ≡ p
no_visits_lem p = visited-both no_visits p (visited-none p.places) (visited-none p.places)

none_more : (vs : List Pending) → length vs ≤ 2 → first_two (drop 2 vs) ≡ no_visits
unfolding first_two
none_more [] l = refl
none_more (v ∷ []) l = refl
none_more (v ∷ w ∷ []) l = refl
none_more (v ∷ w ∷ x ∷ vs) l = absurd (omega (arith, l))

pub applied_two : (t : Bool) (e : Effect) (p : Pair) → e.drops ≡ false → length e.changes ≤ 2 → sound p.places ≡ true
    → moved_pair t (moved_by t e) p ≡ applied t e p
unfolding more_by
applied_two t e p d l s =
    let vs = visits_of t e.changes e.own e.peer in
    sym (no_visits_lem (moved_pair t (moved_by t e) p))
    ∙ ap (λ (v : Visits). visited_pair v (moved_pair t (moved_by t e) p)) (sym (none_more vs (rw (many t e.changes e.own e.peer) l)))
    ∙ applied-last t e p d (omega (arith, l)) s

-- ---- where no wait can fire

pub cannot_fire : (v : Visits) (p : Pair) → length p.places.table ≡ 128 → can_fire p.places.waits v ≡ false → visited_pair v p ≡ p
cannot_fire v p l e =
    let same = table-cannot-fire v p.places l e in
    visited-both v p same.0 same.1

pub settled_pair : (f : Bool) (p q : Pair) → (f ≡ false → p ≡ q) → pick f p q ≡ p
unfolding pick
settled_pair true p q g = refl
settled_pair false p q g = sym (g refl)

-- the step of a call whose waits are visited where one can fire
pub settled_last : (p : Pair) (t : Bool) (a : Answer) (d : Moved) (more : Visits) → length p.places.table ≡ 128
    → settled_step (outcome_of p.places.waits t a d more) p ≡ record { pair = visited_pair more (moved_pair t d p); answer = a }
unfolding settled_step visited_all outcome_of with_ends any_can_fire
settled_last p t a d more l =
    let q = with_ends (pick t d.own d.peer) (pick t d.peer d.own) p in
    ap (λ (k : Pair). record { pair = k; answer = a })
    (settled_pair (any_can_fire p.places.waits d.visits more) (visited_pair more (visited_pair d.visits q)) q
    (λ f. ap (visited_pair more) (cannot_fire d.visits q l (neither _ _ f).0) ∙ cannot_fire more q l (neither _ _ f).1))

pub settled_moved : (p : Pair) (t : Bool) (a : Answer) (d : Moved) → length p.places.table ≡ 128
    → settled_step (outcome_of p.places.waits t a d no_visits) p ≡ record { pair = moved_pair t d p; answer = a }
settled_moved p t a d l = settled_last p t a d no_visits l ∙ ap (λ (k : Pair). record { pair = k; answer = a }) (no_visits_lem (moved_pair t d p))

-- ---- the places of a pair that is owned

pub places_128 : (p : Pair) (vs : List Val) → Is T.the_row p vs → length p.places.table ≡ 128
places_128 p vs g = table_128 p.places _ (LL.owed T.the_type T'.the_laws p vs g).1.1.1.1.1.1.0
