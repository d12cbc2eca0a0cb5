-- The packets, the waits and the unused places of a table. Assumes nothing.
use Prim.Native.Nat.{◌+◌, ◌≤◌, ◌-◌}
use mathlib.Core.Path.{◌≡◌, refl, sym, ap, ◌∙◌}
use mathlib.Core.List.{List, [], ◌++◌, append_assoc}
use native.Mathlib.Omega.{arith}
use native.Mathlib.Nat.{zero-add}
use lib.ListN.{length, take, drop, take-append-drop}
use lib.Seq.{slice, length-slice, length-take-le, take-append_seam, drop-append_seam, take-append-add, drop-append-add, slice_empty}
use Rattle.definition.specs.declared.Places.{Places}
use Rattle.definition.specs.declared.Place.{Place}
use Rattle.definition.specs.Port.{used, packets_of, waits_of, unused_of, table_of, new_places}
use Rattle.port.proofs.places.Lists.{two_parts}
use Rattle.port.proofs.places.Size.{same-places}

-- ---- a table that is made of three parts

pub packets_of_lem : (ps ws us : List Place) → packets_of (table_of ps ws us) ≡ ps
unfolding packets_of table_of
packets_of_lem ps ws us = take-append_seam ps (ws ++ us)

pub waits_of_lem : (ps ws us : List Place) → waits_of (table_of ps ws us) ≡ ws
unfolding waits_of table_of
waits_of_lem ps ws us =
    rw (take-append-add ps (ws ++ us) (length ws), drop-append_seam ps (take (length ws) (ws ++ us))) (take-append_seam ws us)

pub unused_of_lem : (ps ws us : List Place) → unused_of (table_of ps ws us) ≡ us
unfolding unused_of table_of
unused_of_lem ps ws us = drop-append-add ps (ws ++ us) (length ws) ∙ drop-append_seam ws us

-- a table is made of its three parts
pub as_table : (t : Places) → used t ≤ length t.table → table_of (packets_of t) (waits_of t) (unused_of t) ≡ t
unfolding table_of packets_of waits_of unused_of
as_table t h =
    let p = t.packets in
    let u = t.packets + t.waits in
    let size : length (take p t.table) ≡ p = length-take-le p t.table (omega arith) in
    let rest : length (slice p u t.table) ≡ u - p = length-slice p u t.table h in
    same-places size (omega arith)
    (sym (append_assoc (take p t.table) (slice p u t.table) (drop u t.table))
    ∙ ap (λ (l : List Place). l ++ drop u t.table) (sym (two_parts t.table p u (omega arith)))
    ∙ take-append-drop u t.table)

-- ---- a new table, and one without waits

pub new_packets : packets_of new_places ≡ []
unfolding packets_of new_places
new_packets = refl

pub new_waits : waits_of new_places ≡ []
unfolding waits_of new_places
new_waits = refl

pub none_waiting : (t : Places) → t.waits ≡ 0 → waits_of t ≡ []
unfolding waits_of
none_waiting t e = let s : t.packets + t.waits ≡ t.packets = omega arith in rw s (slice_empty t.packets t.table)

-- the waits where no packet stands before them
pub first_waits : (t : Places) → t.packets ≡ 0 → take t.waits t.table ≡ waits_of t
unfolding waits_of
first_waits t e = rw (e, zero-add t.waits) refl
