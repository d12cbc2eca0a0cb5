-- What registering a wait and dropping an end's waits come to, by the table they meet. Assumes nothing.
use Prim.Native.Nat.{ℕ, ◌+◌, ◌≤◌, ◌<◌}
use mathlib.Core.Path.{◌≡◌, refl}
use mathlib.Core.Bool.{Bool, true, false, not}
use mathlib.Core.Logic.{⊎_elim}
use native.Mathlib.Omega.{arith}
use lib.Dec.{ltb}
use borrow.Author.Tests.{leb-true, ltb-true, ltb-false, eq-eqb, ne_eqb}
use Rattle.definition.specs.Status.{pick, ◌and◌, refuse_unless}
use Rattle.definition.specs.declared.Status.TheVariants.{Internal, NoResources}
use Rattle.definition.specs.declared.Places.{Places}
use Rattle.definition.specs.declared.Next.{Next}
use Rattle.definition.specs.Signal.{meets}
use Rattle.definition.specs.Port.{used, sound, end_number, wait_of, observe, refused, done, inserted_of, appended_of, registered_of, dropped_of, register_of, drop_of}
use Rattle.port.proofs.places.Lists.{either}
use Rattle.port.proofs.places.Tests.{sound_below}

-- ---- registering a wait

pub register_unsound : (one : Bool) (w key mask : ℕ) (edge : Bool) (t : Places) → sound t ≡ false → register_of one w key mask edge t ≡ refused Internal t
unfolding register_of pick
register_unsound one w key mask edge t e = rw e refl

pub register_full : (one : Bool) (w key mask : ℕ) (edge : Bool) (t : Places) → used t ≡ 128 → register_of one w key mask edge t ≡ refused NoResources t
unfolding register_of pick
register_full one w key mask edge t e =
    rw (sound_below t (omega arith), eq-eqb (t.packets + t.waits) 128 e) refl

pub register_done : (one : Bool) (w key mask : ℕ) (edge : Bool) (t : Places) → used t < 128
    → register_of one w key mask edge t ≡ done (registered_of (wait_of one key mask) w edge t)
unfolding register_of pick
register_done one w key mask edge t h =
    rw (sound_below t (omega arith), ne_eqb (t.packets + t.waits) 128 (λ e. omega arith)) refl

register_none : (one : Bool) (w key mask : ℕ) (edge : Bool) (t : Places) → 128 ≤ used t → t ≡ (register_of one w key mask edge t).places
unfolding refused
register_none one w key mask edge t h =
    ⊎_elim
    (λ (s : sound t ≡ true).
    let full : used t ≡ 128 = omega (arith, leb-true (used t) 128 s) in
    rw (register_full one w key mask edge t full) refl)
    (λ (s : sound t ≡ false). rw (register_unsound one w key mask edge t s) refl)
    (either (sound t))

-- the wait, or the packet of one that fires at once
registered_as : (one : Bool) (w key mask : ℕ) (edge : Bool) (t : Places)
    → pick (not edge and meets w mask)
    (inserted_of (record { key = key; mask = mask; observed = pick (not edge and meets w mask) w 0; end = end_number one }) t)
    (appended_of (record { key = key; mask = mask; observed = pick (not edge and meets w mask) w 0; end = end_number one }) t)
    ≡ registered_of (wait_of one key mask) w edge t
unfolding registered_of pick ◌and◌ wait_of observe
registered_as one w key mask true t = refl
registered_as one w key mask false t =
    ⊎_elim
    (λ (m : meets w mask ≡ true). rw m refl)
    (λ (m : meets w mask ≡ false). rw m refl)
    (either (meets w mask))

-- where registering is asked and possible, and where it is not
pub register_if : (asked one : Bool) (w key mask : ℕ) (edge : Bool) (t : Places)
    → pick (asked and ltb (used t) 128)
    (pick (not edge and meets w mask)
    (inserted_of (record { key = key; mask = mask; observed = pick (not edge and meets w mask) w 0; end = end_number one }) t)
    (appended_of (record { key = key; mask = mask; observed = pick (not edge and meets w mask) w 0; end = end_number one }) t))
    t
    ≡ pick asked (register_of one w key mask edge t).places t
unfolding pick ◌and◌ refused done
register_if false one w key mask edge t = refl
register_if true one w key mask edge t =
    ⊎_elim
    (λ (l : ltb (used t) 128 ≡ true).
    rw (l, register_done one w key mask edge t (ltb-true (used t) 128 l)) (registered_as one w key mask edge t))
    (λ (l : ltb (used t) 128 ≡ false). rw l (register_none one w key mask edge t (ltb-false (used t) 128 l)))
    (either (ltb (used t) 128))

-- ---- dropping an end's waits

pub drop_unsound : (one : Bool) (t : Places) → sound t ≡ false → drop_of one t ≡ refused Internal t
unfolding drop_of pick
drop_unsound one t e = rw e refl

pub drop-done : (one : Bool) (t : Places) → sound t ≡ true → drop_of one t ≡ done (dropped_of one t)
unfolding drop_of pick
drop-done one t e = rw e refl

-- in one record
pub drop_as : (one : Bool) (t : Places) → ◌≡◌ {A = Next} (record { places = pick (sound t) (dropped_of one t) t; answer = refuse_unless (sound t) Internal }) (drop_of one t)
unfolding drop_of pick refuse_unless done refused
drop_as one t =
    ⊎_elim
    (λ (s : sound t ≡ true). rw s refl)
    (λ (s : sound t ≡ false). rw s refl)
    (either (sound t))
