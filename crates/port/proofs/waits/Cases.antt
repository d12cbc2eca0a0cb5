-- Edges of the table: P12 with the packet taken, the same word, the 129th registration, and 128 waits that fire at once. 01 "At the edges".
use Prim.Native.Nat.{ℕ, zero, suc}
use mathlib.Core.Path.{◌≡◌, refl}
use mathlib.Core.Bool.{false}
use mathlib.Core.List.{List, [], ◌∷◌, map}
use Rattle.definition.specs.Status.{pick, ◌and◌}
use Rattle.definition.specs.declared.Status.TheVariants.{NoResources}
use Rattle.std.specs.declared.result.Result.TheVariants.{Ok, Err}
use Rattle.definition.specs.declared.Record.TheVariants.{Packet}
use Rattle.definition.specs.declared.Place.{Place}
use Rattle.definition.specs.declared.Places.{Places}
use Rattle.definition.specs.Port.{filter, packets_of, waits_of, unused_of, table_of, new_places, end_number, wait_of, observe, packet_of, fires, fired, kept, fired_of, change_of, refused, done, take_of, inserted_of, appended_of, registered_of, register_of}
use Rattle.definition.specs.Signal.{READABLE, WRITABLE, changed_word, meets}

-- a wait of end 2 on READABLE, while the end's word is WRITABLE
unfoldable pub wait : ℕ → Places → Places
unfolding pick ◌and◌ filter meets packets_of waits_of unused_of table_of wait_of observe inserted_of appended_of registered_of refused done register_of
wait key t = (register_of false WRITABLE key READABLE false t).places

-- the keys of the packets after that end has become READABLE
unfoldable pub keys_after : Places → List ℕ
unfolding pick ◌and◌ filter changed_word meets packets_of waits_of unused_of table_of observe fires fired kept fired_of change_of
keys_after t = map (λ (p : Place). p.key) (packets_of (change_of false WRITABLE 0 READABLE t).places)

-- P12: waits with keys 1 and 2 give the packets 2, 1
pub newest_first : keys_after (wait 2 (wait 1 new_places)) ≡ 2 ∷ 1 ∷ []
unfolding end_number keys_after wait new_places
newest_first = refl

-- the first packet taken then has the mask as its trigger and the new word as observed
pub first_taken : (take_of (change_of false WRITABLE 0 READABLE (wait 2 (wait 1 new_places))).places).answer
    ≡ Ok (Packet (record { key = 2; trigger = READABLE; observed = 3; count = 1; timestamp = 0 }))
unfolding pick ◌and◌ filter changed_word meets packets_of waits_of unused_of table_of end_number observe fires fired kept fired_of change_of packet_of take_of wait new_places
first_taken = refl

-- a change that leaves the word the same fires nothing
pub same_word : (change_of false WRITABLE 0 WRITABLE (wait 1 new_places)).places ≡ wait 1 new_places
unfolding pick changed_word change_of wait new_places
same_word = refl

-- waits with the keys n to 1, in this order
unfoldable pub waits : ℕ → Places → Places
waits zero t = t
waits (suc n) t = waits n (wait (suc n) t)

-- the keys from k on
unfoldable pub keys_from : ℕ → ℕ → List ℕ
keys_from k zero = []
keys_from k (suc n) = k ∷ keys_from (suc k) n

-- with 128 waits registered, the next is refused
pub full : (register_of false WRITABLE 9 READABLE false (waits 128 new_places)).answer ≡ Err NoResources
unfolding waits wait new_places register_of refused
full = refl

-- 128 waits fire at once, the newest, of key 1, first
pub all_fire : keys_after (waits 128 new_places) ≡ keys_from 1 128
unfolding end_number waits wait keys_after keys_from new_places
all_fire = refl
