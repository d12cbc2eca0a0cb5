-- How many places each operation leaves used: a sound table stays sound. Assumes nothing.
use Prim.Native.Nat.{ℕ, ◌+◌, ◌-◌, ◌≤◌, ◌<◌}
use mathlib.Core.Path.{◌≡◌, refl, ◌∙◌}
use mathlib.Core.Bool.{Bool, true, false}
use mathlib.Core.Logic.{⊎_elim}
use mathlib.Core.List.{List, [], ◌∷◌, reverse}
use native.Mathlib.Omega.{arith}
use native.Mathlib.Nat.{min-le_left}
use lib.ListN.{length, take, length-append, length-map, length-reverse, length-take, length-drop}
use lib.Seq.{length-slice, length-take-le}
use lib.Dec.{eqb}
use borrow.Author.Tests.{leb-true, eqb-true, eqb-false}
use Rattle.definition.specs.Status.{pick}
use Rattle.definition.specs.declared.Place.{Place}
use Rattle.definition.specs.declared.Places.{Places}
use Rattle.definition.specs.Port.{filter, used, sound, packets_of, waits_of, table_of, new_places, wait_of, observe, fires, fired, kept, fired_of, change_of, of_other, others, inserted_of, appended_of, registered_of, dropped_of, register_of, drop_of, refused, done, taken_of, take_of}
use Rattle.definition.specs.Signal.{changed_word, meets}
use Rattle.port.proofs.places.Lists.{either, length-filter}
use Rattle.port.proofs.places.Tests.{sound_below}
use Rattle.port.proofs.signal_change.Operations.{change_sound}
use Rattle.port.proofs.packets.Operations.{take_none, take_done}
use Rattle.port.proofs.waits.Operations.{register_full, register_done, drop-done}

-- ---- how many packets and waits there are

pub most-packets : (t : Places) → length (packets_of t) ≤ t.packets
unfolding packets_of
most-packets t = rw (length-take t.packets t.table) (min-le_left t.packets (length t.table))

pub most_waits : (t : Places) → length (waits_of t) ≤ t.waits
unfolding waits_of
most_waits t =
    let u = t.packets + t.waits in
    let m : length (take u t.table) ≤ u = rw (length-take u t.table) (min-le_left u (length t.table)) in
    omega (arith, length-drop t.packets (take u t.table))

pub length-packets : (t : Places) → used t ≤ length t.table → length (packets_of t) ≡ t.packets
unfolding packets_of
length-packets t h = length-take-le t.packets t.table (omega arith)

pub length_waits : (t : Places) → used t ≤ length t.table → length (waits_of t) ≡ t.waits
unfolding waits_of
length_waits t h = let e : t.packets + t.waits - t.packets ≡ t.waits = omega arith in length-slice t.packets (t.packets + t.waits) t.table h ∙ e

-- each wait either fires or is kept
pub length-fired : (one : Bool) (w : ℕ) (ws : List Place) → length (fired one w ws) + length (kept one w ws) ≡ length ws
unfolding fired kept
length-fired one w ws =
    rw (length-map (reverse (filter (fires one w) ws)) (observe w), length-reverse (filter (fires one w) ws)) (length-filter (fires one w) ws)

pub length-others : (one : Bool) (ws : List Place) → length (others one ws) ≤ length ws
unfolding others
length-others one ws = omega (arith, length-filter (of_other one) ws)

-- ---- how many places each step leaves used, where the table has a place for each

module _ (t : Places) (h : used t ≤ length t.table) where
  pub used-fired : (one : Bool) (w : ℕ) → used (fired_of one w t) ≡ used t
  unfolding fired_of table_of
  used-fired one w =
      omega (arith, length-packets t h, length_waits t h, length-fired one w (waits_of t), length-append (packets_of t) (fired one w (waits_of t)))

  used_inserted : (p : Place) → used (inserted_of p t) ≡ used t + 1
  unfolding inserted_of table_of
  used_inserted p = omega (arith, length-packets t h, length_waits t h, length-append (packets_of t) (p ∷ []))

  used_appended : (p : Place) → used (appended_of p t) ≡ used t + 1
  unfolding appended_of table_of
  used_appended p = omega (arith, length-packets t h, length_waits t h, length-append (waits_of t) (p ∷ []))

  pub used_registered : (p : Place) (w : ℕ) (edge : Bool) → used (registered_of p w edge t) ≡ used t + 1
  unfolding registered_of pick
  used_registered p w true = used_appended p
  used_registered p w false =
      ⊎_elim
      (λ (m : meets w p.mask ≡ true). rw m (used_inserted (observe w p)))
      (λ (m : meets w p.mask ≡ false). rw m (used_appended p))
      (either (meets w p.mask))

  pub used-taken : 0 < t.packets → used (taken_of t) + 1 ≡ used t
  unfolding taken_of table_of
  used-taken k = omega (arith, length-packets t h, length_waits t h, length-drop 1 (packets_of t))

  pub used_dropped : (one : Bool) → used (dropped_of one t) ≡ t.packets + length (others one (waits_of t))
  unfolding dropped_of table_of
  used_dropped one = omega (arith, length-packets t h)

-- ---- a sound table stays sound

-- no step but the registration of a wait makes the used places more, and that one by one
module _ (t : Places) where
  most-fired : (one : Bool) (w : ℕ) → used (fired_of one w t) ≤ used t
  unfolding fired_of table_of
  most-fired one w =
      omega (arith, most-packets t, most_waits t, length-fired one w (waits_of t), length-append (packets_of t) (fired one w (waits_of t)))

  most_inserted : (p : Place) → used (inserted_of p t) ≤ used t + 1
  unfolding inserted_of table_of
  most_inserted p = omega (arith, most-packets t, most_waits t, length-append (packets_of t) (p ∷ []))

  most_appended : (p : Place) → used (appended_of p t) ≤ used t + 1
  unfolding appended_of table_of
  most_appended p = omega (arith, most-packets t, most_waits t, length-append (waits_of t) (p ∷ []))

  most_registered : (p : Place) (w : ℕ) (edge : Bool) → used (registered_of p w edge t) ≤ used t + 1
  unfolding registered_of pick
  most_registered p w true = most_appended p
  most_registered p w false =
      ⊎_elim
      (λ (m : meets w p.mask ≡ true). rw m (most_inserted (observe w p)))
      (λ (m : meets w p.mask ≡ false). rw m (most_appended p))
      (either (meets w p.mask))

  most-taken : used (taken_of t) ≤ used t
  unfolding taken_of table_of
  most-taken = omega (arith, most-packets t, most_waits t, length-drop 1 (packets_of t))

  most_dropped : (one : Bool) → used (dropped_of one t) ≤ used t
  unfolding dropped_of table_of
  most_dropped one = omega (arith, most-packets t, most_waits t, length-others one (waits_of t))

pub sound_new : sound new_places ≡ true
unfolding new_places
sound_new = refl

module _ (t : Places) (s : sound t ≡ true) where
  abbrev within : used t ≤ 128
  within = leb-true (used t) 128 s

  pub sound-fired : (one : Bool) (w : ℕ) → sound (fired_of one w t) ≡ true
  sound-fired one w = sound_below (fired_of one w t) (omega (arith, within, most-fired t one w))

  pub sound_dropped : (one : Bool) → sound (dropped_of one t) ≡ true
  sound_dropped one = sound_below (dropped_of one t) (omega (arith, within, most_dropped t one))

  pub sound_register : (one : Bool) (w key mask : ℕ) (edge : Bool) → sound (register_of one w key mask edge t).places ≡ true
  unfolding refused done
  sound_register one w key mask edge =
      ⊎_elim
      (λ (e : eqb (used t) 128 ≡ true). rw (register_full one w key mask edge t (eqb-true (used t) 128 e)) s)
      (λ (e : eqb (used t) 128 ≡ false).
      let below : used t < 128 = omega (arith, within, eqb-false (used t) 128 e) in
      let next = registered_of (wait_of one key mask) w edge t in
      rw (register_done one w key mask edge t below) (sound_below next (omega (arith, most_registered t (wait_of one key mask) w edge))))
      (either (eqb (used t) 128))

  pub sound_change : (one : Bool) (w clear set : ℕ) → sound (change_of one w clear set t).places ≡ true
  unfolding pick
  sound_change one w clear set =
      let n = changed_word clear set w in
      ⊎_elim
      (λ (e : eqb n w ≡ true). rw (change_sound one w clear set t s, e) s)
      (λ (e : eqb n w ≡ false). rw (change_sound one w clear set t s, e) (sound-fired one n))
      (either (eqb n w))

  pub sound-take : sound (take_of t).places ≡ true
  unfolding refused
  sound-take =
      ⊎_elim
      (λ (e : eqb t.packets 0 ≡ true). rw (take_none t s (eqb-true t.packets 0 e)) s)
      (λ (e : eqb t.packets 0 ≡ false).
      let some : 0 < t.packets = omega (arith, eqb-false t.packets 0 e) in
      rw (take_done t s some) (sound_below (taken_of t) (omega (arith, within, most-taken t))))
      (either (eqb t.packets 0))

  pub sound-drop : (one : Bool) → sound (drop_of one t).places ≡ true
  unfolding done
  sound-drop one = rw (drop-done one t s) (sound_dropped one)
