-- Cancelling: the places that do not match are moved together, and those of the packets are counted. Assumes nothing.
use Prim.Native.Nat.{ℕ, ◌+◌, ◌-◌, ◌≤◌, ◌<◌}
use mathlib.Core.Path.{◌≡◌, ap, ◌∙◌}
use mathlib.Core.Bool.{Bool, true, false, not}
use mathlib.Core.Logic.{⊎_elim}
use mathlib.Core.List.{List, ◌++◌, append_assoc}
use native.Mathlib.Omega.{arith}
use lib.Dec.{leb}
use lib.ListN.{length, take, drop, replicate, length-append}
use lib.Seq.{slice}
use borrow.Author.Tests.{leb-true, leb-false}
use Rattle.definition.specs.Status.{pick}
use Rattle.definition.specs.declared.Place.{Place}
use Rattle.definition.specs.declared.Places.{Places}
use Rattle.definition.specs.Port.{filter, free, used, sound, packets_of, waits_of, unused_of, table_of, matches, unmatched, matching, cancelled_of}
use Rattle.port.proofs.places.Lists.{either, two_parts, filter-append, filter-all, filter_empty, length-filter}
use Rattle.port.proofs.places.Tests.{sound_below}
use Rattle.port.proofs.places.Views.{as_table}
use Rattle.port.proofs.places.Size.{same-places}
use Rattle.port.proofs.waits.Compact.{Compacted, compact_all, compact_count}
use Rattle.port.proofs.waits.Sound.{most-packets, most_waits, length-packets, length_waits}

-- what a cancel keeps
abbrev pub keeps : Bool → (key : ℕ) → Place → Bool
keeps one key p = not (matches one key p)

-- once the packets are visited, the number of those kept is known
pub kept-packets : (f : Place → Bool) (tab : List Place) (p u : ℕ) (out : List Place) (m n i : ℕ) → Compacted f free tab 0 u out n i
    → (p < i → m ≡ length (filter f (take p tab))) → p ≤ i → pick (leb i p) n m ≡ length (filter f (take p tab))
unfolding pick
kept-packets f tab p u out m n i c k h =
    ⊎_elim
    (λ (b : leb i p ≡ true).
    let e : i ≡ p = omega (arith, leb-true i p b) in
    let count : n ≡ 0 + length (filter f (take i tab)) = c.count in
    let same : length (filter f (take i tab)) ≡ length (filter f (take p tab)) = ap (λ j. length (filter f (take j tab))) e in
    rw b (omega (arith, count, same)))
    (λ (b : leb i p ≡ false). rw b (k (leb-false i p b)))
    (either (leb i p))

-- the table that the pass leaves, and how many places it freed
pub cancelled_as : (one : Bool) (key : ℕ) (t : Places) (out : List Place) (m n i : ℕ) → used t ≤ length t.table
    → Compacted (keeps one key) free t.table 0 (used t) out n i → used t ≤ i
    → m ≡ length (filter (keeps one key) (take t.packets t.table))
    → (m ≤ n) × ((used t - n ≡ matching one key t) × (◌≡◌ {A = Places} (record { packets = m; waits = n - m; table = out }) (cancelled_of one key t)))
unfolding cancelled_of table_of matching unmatched packets_of waits_of unused_of
cancelled_as one key t out m n i h c d k =
    let f = keeps one key in
    let p = t.packets in
    let u = used t in
    let ps = take p t.table in
    let ws = slice p u t.table in
    let parts : filter f (take u t.table) ≡ filter f ps ++ filter f ws = ap (filter f) (two_parts t.table p u (omega arith)) ∙ filter-append f ps ws in
    let count : n ≡ 0 + length (filter f (take u t.table)) = compact_count f free t.table 0 u out n i c d in
    let whole : n ≡ length (filter f ps) + length (filter f ws) = omega (arith, count, ap length parts, length-append (filter f ps) (filter f ws)) in
    let gone : u - n ≡ length (filter (matches one key) ps) + length (filter (matches one key) ws) =
    omega (arith, whole, length-filter (matches one key) ps, length-filter (matches one key) ws, length-packets t h, length_waits t h)
    in
    let table : out ≡ filter f ps ++ (filter f ws ++ (replicate (length (filter (matches one key) ps) + length (filter (matches one key) ws)) free ++ drop u t.table)) =
    compact_all f free t.table 0 u out n i c d
    ∙ rw (parts, gone) (append_assoc (filter f ps) (filter f ws) (replicate (length (filter (matches one key) ps) + length (filter (matches one key) ws)) free ++ drop u t.table))
    in
    (omega (arith, whole, k), (gone, same-places k (omega (arith, whole, k)) table))

-- ---- how many places a cancel frees

-- 02 (i): the places used before are those used after and the number removed
pub used-cancelled : (one : Bool) (key : ℕ) (t : Places) → used t ≤ length t.table → used (cancelled_of one key t) + matching one key t ≡ used t
unfolding cancelled_of table_of matching unmatched
used-cancelled one key t h =
    omega (arith, length-packets t h, length_waits t h, length-filter (matches one key) (packets_of t), length-filter (matches one key) (waits_of t))

-- a sound table stays sound, also one that has not a place for each
pub most-cancelled : (one : Bool) (key : ℕ) (t : Places) → used (cancelled_of one key t) ≤ used t
unfolding cancelled_of table_of unmatched
most-cancelled one key t =
    omega (arith, most-packets t, most_waits t, length-filter (matches one key) (packets_of t), length-filter (matches one key) (waits_of t))

pub sound-cancelled : (one : Bool) (key : ℕ) (t : Places) → sound t ≡ true → sound (cancelled_of one key t) ≡ true
sound-cancelled one key t s = sound_below (cancelled_of one key t) (omega (arith, leb-true (used t) 128 s, most-cancelled one key t))

-- where nothing matches, the table stays as it is
none-matching : (f : Place → Bool) (xs : List Place) → length (filter f xs) ≡ 0 → filter (λ y. not (f y)) xs ≡ xs
none-matching f xs e = filter-all f xs (filter_empty f xs e)

pub none-cancelled : (one : Bool) (key : ℕ) (t : Places) → used t ≤ length t.table → matching one key t ≡ 0 → cancelled_of one key t ≡ t
unfolding cancelled_of matching unmatched
none-cancelled one key t h e =
    let ps = none-matching (matches one key) (packets_of t) (omega arith) in
    let ws = none-matching (matches one key) (waits_of t) (omega arith) in
    rw (ps, ws, e) (as_table t h)
