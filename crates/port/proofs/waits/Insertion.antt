-- A packet put behind the packets or a wait put behind the waits, as one insertion at an index. Assumes nothing.
use Prim.Native.Nat.{ℕ, ◌+◌, ◌-◌, ◌≤◌, ◌<◌}
use mathlib.Core.Path.{◌≡◌, refl}
use mathlib.Core.Bool.{Bool, true, false}
use mathlib.Core.List.{[], ◌∷◌, ◌++◌}
use native.Mathlib.Omega.{arith}
use lib.ListN.{length, take, drop, length-append}
use lib.Seq.{slice, length-slice, length-take-le}
use Rattle.definition.specs.Status.{pick}
use Rattle.definition.specs.declared.Place.{Place}
use Rattle.definition.specs.declared.Places.{Places}
use Rattle.definition.specs.Port.{used, packets_of, waits_of, unused_of, table_of, inserted_of, appended_of}
use Rattle.port.proofs.places.Shift.{put-behind}
use Rattle.port.proofs.places.Size.{same-places}

-- the index is that of a used place or of the first unused one
pub index_fits : (packet : Bool) (p w : ℕ) → pick packet p (p + w) ≤ p + w
unfolding pick
index_fits true p w = omega arith
index_fits false p w = omega arith

pub placed_as : (t : Places) (x : Place) (packet : Bool) (at more : ℕ) → at ≡ pick packet t.packets (used t) → more ≡ pick packet 1 0 → used t < length t.table
    → ◌≡◌ {A = Places} (record {
      packets = t.packets + more;
      waits = t.waits + 1 - more;
      table = (take at t.table ++ (x ∷ [])) ++ (slice at (used t) t.table ++ drop 1 (drop (used t) t.table));
    }) (pick packet (inserted_of x t) (appended_of x t))
unfolding pick inserted_of appended_of table_of packets_of waits_of unused_of
placed_as t x true at more e m h =
    let p = t.packets in
    let u = t.packets + t.waits in
    let size : length (take p t.table) ≡ p = length-take-le p t.table (omega arith) in
    let rest : length (slice p u t.table) ≡ u - p = length-slice p u t.table (omega arith) in
    rw (e, m) (same-places (omega (arith, length-append (take p t.table) (x ∷ []))) (omega arith) refl)
placed_as t x false at more e m h =
    let p = t.packets in
    let u = t.packets + t.waits in
    let size : length (take p t.table) ≡ p = length-take-le p t.table (omega arith) in
    let rest : length (slice p u t.table) ≡ u - p = length-slice p u t.table (omega arith) in
    rw (e, m) (same-places (omega arith) (omega (arith, length-append (slice p u t.table) (x ∷ []))) (put-behind t.table p u x (omega arith)))
