-- The table of 128 places: its packets, its waits and its unused places; what fires a wait; wait, take and cancel. 01 "Signal word and packets", 02 (i).
-- An end is named by a Bool, true for end 1 and false for end 2; a place holds the end's number.
use Rattle.std.specs.Prelude.{ℕ, ◌+◌, ◌-◌, Bool, false, not, List, [], ◌∷◌, ◌++◌, map, reverse, leb, eqb, ltb, take, drop, length, replicate, get_or}
use Rattle.definition.specs.declared.Place.{Place}
use Rattle.definition.specs.declared.Places.{Places}
use Rattle.definition.specs.declared.PortPacket.{PortPacket}
use Rattle.definition.specs.declared.Status.{Status}
use Rattle.std.specs.declared.result.Result.TheVariants.{Err, Ok}
use Rattle.definition.specs.declared.Next.{Next}
use Rattle.definition.specs.declared.Status.TheVariants.{Internal, ShouldWait, NoResources, InvalidArgs, NotFound}
use Rattle.definition.specs.declared.Change.{Change}
use Rattle.definition.specs.declared.Record.TheVariants.{Count, Packet}
use Rattle.definition.specs.Status.{Answer}
use Rattle.definition.specs.declared.Ends.{Ends}
use Rattle.definition.specs.declared.Pair.{Pair}
use Rattle.definition.specs.Status.{pick, ◌or◌, ok, ◌and◌, refuse_if, ◌then◌}
use Rattle.definition.specs.Signal.{meets, changed_word}
use Rattle.definition.specs.Tests.{opening_test, sound_test, Steps}
use Rattle.definition.specs.Pair.{own, with_places, ends_of, is_one}
use Rattle.definition.specs.declared.Step.{Step}

-- ---- lists

-- the elements that pass, in their order
unfoldable pub filter : {A : Type 0} → (A → Bool) → List A → List A
filter f [] = []
filter f (x ∷ xs) = pick (f x) (x ∷ filter f xs) (filter f xs)

-- whether an element passes
unfoldable pub any : {A : Type 0} → (A → Bool) → List A → Bool
any f [] = false
any f (x ∷ xs) = f x or any f xs

-- ---- the table and its three parts

-- a place that was never used, or that was freed
abbrev pub free : Place
free = record { key = 0; mask = 0; observed = 0; end = 0 }

-- 01 "Signal word and packets": a place is used while it holds a packet or a wait
abbrev pub used : Places → ℕ
used t = t.packets + t.waits

-- 01 "Status and answer word": no run leaves a table with more than 128 used places
abbrev pub sound : Places → Bool
sound t = leb (t.packets + t.waits) 128

-- the packets in the order of their firing, oldest first
unfoldable pub packets_of : Places → List Place
packets_of t = take t.packets t.table

-- the waits of both ends in the order of their registration, oldest first
unfoldable pub waits_of : Places → List Place
waits_of t = drop t.packets (take (t.packets + t.waits) t.table)

-- the places behind them; no operation looks at what they hold
unfoldable pub unused_of : Places → List Place
unused_of t = drop (t.packets + t.waits) t.table

-- the table that has these three parts
unfoldable pub table_of : List Place → List Place → List Place → Places
table_of ps ws us = record { packets = length ps; waits = length ws; table = ps ++ (ws ++ us) }

-- 01 "Signal word and packets": the pair holds 128 places, at first all unused
unfoldable pub new_places : Places
new_places = record { packets = 0; waits = 0; table = replicate 128 free }

-- ---- a wait and its packet

-- the number of an end; a place that no wait has holds 0
unfoldable pub end_number : Bool → ℕ
end_number one = pick one 1 2

-- a wait of end 1 or of end 2; it has observed nothing yet
unfoldable pub wait_of : Bool → ℕ → ℕ → Place
wait_of one key mask = record { key = key; mask = mask; observed = 0; end = end_number one }

-- the wait as a packet: it has observed this word
unfoldable pub observe : ℕ → Place → Place
observe w p = record { key = p.key; mask = p.mask; observed = w; end = p.end }

-- 01 "Signal word and packets": the packet has the wait's key, its mask as the trigger, the observed word, count 1 and timestamp 0
unfoldable pub packet_of : Place → PortPacket
packet_of p = record { key = p.key; trigger = p.mask; observed = p.observed; count = 1; timestamp = 0 }

-- ---- what an operation on the table answers

-- 01 "Status and answer word": a refused call changes nothing
unfoldable pub refused : Status → Places → Next
refused s t = record { places = t; answer = Err s }

-- done, without a record
unfoldable pub done : Places → Next
done t = record { places = t; answer = ok }

-- ---- a change of an end's word, and the waits that it fires

-- whether the wait is of that end and its mask meets the end's word
unfoldable pub fires : Bool → ℕ → Place → Bool
fires one w p = eqb p.end (end_number one) and meets w p.mask

-- whether any of the waits fires
unfoldable pub any_fires : Bool → ℕ → List Place → Bool
any_fires one w ws = any (fires one w) ws

-- 01 "Signal word and packets": whether a change of an end's word to w fires a wait; none where more than 128 places are used
unfoldable pub fires_of : Bool → ℕ → Places → Bool
fires_of one w t = sound t and any_fires one w (waits_of t)

-- 01 "Signal word and packets": that end's waits are visited newest first; each that meets the word yields a packet
unfoldable pub fired : Bool → ℕ → List Place → List Place
fired one w ws = map (observe w) (reverse (filter (fires one w) ws))

-- the other waits stay, in their order
unfoldable pub kept : Bool → ℕ → List Place → List Place
kept one w ws = filter (λ p. not (fires one w p)) ws

-- the packets of the waits that fire stand behind the packets
unfoldable pub fired_of : Bool → ℕ → Places → Places
fired_of one w t = table_of (packets_of t ++ fired one w (waits_of t)) (kept one w (waits_of t)) (unused_of t)

-- 01 "Signal word and packets": one change of an end's word, here from w; if the word stays the same, nothing fires. 01 "Status and answer word":
-- a table with more than 128 used places is INTERNAL.
unfoldable pub change_of : Bool → ℕ → ℕ → ℕ → Places → Change
change_of one w clear set t =
    pick (sound t)
    (record {
      places = pick (eqb (changed_word clear set w) w) t (fired_of one (changed_word clear set w) t);
      word = changed_word clear set w;
      answer = ok;
    })
    (record { places = t; word = w; answer = Err Internal })

-- ---- taking a packet

-- the oldest packet is gone, and its place is free
unfoldable pub taken_of : Places → Places
taken_of t = table_of (drop 1 (packets_of t)) (waits_of t) (free ∷ unused_of t)

-- 01 "Signal word and packets": taking gives the oldest packet, or −22 if there is none
unfoldable pub take_of : Places → Next
take_of t =
    pick (sound t)
    (pick (eqb t.packets 0) (refused ShouldWait t)
    (record { places = taken_of t; answer = Ok (Packet (packet_of (get_or (packets_of t) 0 free))) }))
    (refused Internal t)

-- ---- registering a wait, dropping those of an end

-- whether the wait is not of that end
unfoldable pub of_other : Bool → Place → Bool
of_other one p = not (eqb p.end (end_number one))

-- the waits of the other end, in their order
unfoldable pub others : Bool → List Place → List Place
others one ws = filter (of_other one) ws

-- a packet more, the newest
unfoldable pub inserted_of : Place → Places → Places
inserted_of p t = table_of (packets_of t ++ (p ∷ [])) (waits_of t) (drop 1 (unused_of t))

-- a wait more, the newest
unfoldable pub appended_of : Place → Places → Places
appended_of p t = table_of (packets_of t) (waits_of t ++ (p ∷ [])) (drop 1 (unused_of t))

-- 01 "Signal word and packets": a wait without the edge flag may fire as it is registered, by the word as it is
unfoldable pub registered_of : Place → ℕ → Bool → Places → Places
registered_of p w edge t = pick edge (appended_of p t) (pick (meets w p.mask) (inserted_of (observe w p) t) (appended_of p t))

-- that end's waits are gone, and their places are free; the packets of both ends stay
unfoldable pub dropped_of : Bool → Places → Places
dropped_of one t =
    table_of (packets_of t) (others one (waits_of t)) (replicate (t.waits - length (others one (waits_of t))) free ++ unused_of t)

-- 01 "Signal word and packets": registering a wait is refused with −3 exactly if all 128 places are used
unfoldable pub register_of : Bool → ℕ → ℕ → ℕ → Bool → Places → Next
register_of one w key mask edge t =
    pick (sound t)
    (pick (eqb (used t) 128) (refused NoResources t) (done (registered_of (wait_of one key mask) w edge t)))
    (refused Internal t)

-- 01 "Signal word and packets": a close removes the end's waits and keeps its packets. A table with more than 128 used places is INTERNAL.
unfoldable pub drop_of : Bool → Places → Next
drop_of one t = pick (sound t) (done (dropped_of one t)) (refused Internal t)

-- ---- cancelling

-- 02 (i): whether a wait, or the packet that it made, is of that end and has that key, all 64 bits of it
unfoldable pub matches : Bool → (key : ℕ) → Place → Bool
matches one key p = eqb p.end (end_number one) and eqb p.key key

-- those that do not match, in their order
unfoldable pub unmatched : Bool → (key : ℕ) → List Place → List Place
unmatched one key ps = filter (λ p. not (matches one key p)) ps

-- how many packets and waits match
unfoldable pub matching : Bool → (key : ℕ) → Places → ℕ
matching one key t = length (filter (matches one key) (packets_of t)) + length (filter (matches one key) (waits_of t))

-- 02 (i): every wait of that end with that key goes, and so does every packet that such a wait made. What is left keeps its order, and the freed
-- places stand before the unused ones.
unfoldable pub cancelled_of : Bool → (key : ℕ) → Places → Places
cancelled_of one key t =
    table_of (unmatched one key (packets_of t)) (unmatched one key (waits_of t)) (replicate (matching one key t) free ++ unused_of t)

-- ---- the calls

-- ---- wait

-- the edge byte is 0 or 1; −3 means exactly that all 128 places are used
unfoldable pub wait_answer : Ends → (h edge : ℕ) → Answer
wait_answer e h edge =
    opening_test e h
    then refuse_if (ltb 1 edge) InvalidArgs
    then refuse_if (eqb (e.packets + e.waits) 128) NoResources

-- 01 "Signal word and packets": a wait with edge 0 may fire as it is registered, by the end's word as it is
unfoldable pub waited : Bool → (key mask edge : ℕ) → Pair → Pair
waited t key mask edge p = with_places (registered_of (wait_of t key mask) (own t (ends_of p)).signals (eqb edge 1) p.places) p

-- ---- take

-- 01 "Signal word and packets": the oldest packet, or −22 where there is none
unfoldable pub take_answer : Pair → Answer
take_answer p =
    sound_test (ends_of p)
    then refuse_if (eqb p.places.packets 0) ShouldWait
    then Ok (Packet (packet_of (get_or (packets_of p.places) 0 free)))

-- the pair without its oldest packet, whose place can be used again
unfoldable pub took : Pair → Pair
took p = with_places (taken_of p.places) p

-- ---- cancel

-- 02 (i): the number of waits and packets removed, or −25 where nothing matched, after −11
unfoldable pub cancel_answer : Pair → (h key : ℕ) → Answer
cancel_answer p h key =
    opening_test (ends_of p) h
    then refuse_if (eqb (matching (is_one h) key p.places) 0) NotFound
    then Ok (Count (matching (is_one h) key p.places))

-- the pair without them; no word changes, so nothing fires
unfoldable pub cancelled : Bool → (key : ℕ) → Pair → Pair
cancelled t key p = with_places (cancelled_of t key p.places) p

-- ---- what the three calls do

abbrev pub Waits : Pair → (h key mask edge : ℕ) → Step → Type 0
Waits p h key mask edge = Steps p (wait_answer (ends_of p) h edge) (waited (is_one h) key mask edge p)

abbrev pub Takes : Pair → Step → Type 0
Takes p = Steps p (take_answer p) (took p)

abbrev pub Cancels : Pair → (h key : ℕ) → Step → Type 0
Cancels p h key = Steps p (cancel_answer p h key) (cancelled (is_one h) key p)
