-- What taking the oldest packet comes to, by the table it meets. Assumes nothing.
use Prim.Native.Nat.{◌≤◌, ◌<◌}
use mathlib.Core.Path.{◌≡◌, refl}
use mathlib.Core.Bool.{Bool, true, false, not, false≢true}
use native.Mathlib.Omega.{arith}
use lib.ListN.{get_or}
use lib.Dec.{eqb}
use borrow.Author.Tests.{leb-true, eq-eqb, ne_eqb, eqb-false, not-true}
use Rattle.definition.specs.Status.{pick, ◌and◌}
use Rattle.definition.specs.declared.Status.TheVariants.{Internal, ShouldWait}
use Rattle.definition.specs.declared.Record.TheVariants.{Packet}
use Rattle.std.specs.declared.result.Result.TheVariants.{Ok}
use Rattle.endpoint.proofs.answer.Chains.{both}
use Rattle.definition.specs.declared.Places.{Places}
use Rattle.definition.specs.Port.{free, used, sound, packets_of, packet_of, refused, taken_of, take_of}
use Rattle.port.proofs.places.Tests.{sound_below}

pub take_unsound : (t : Places) → sound t ≡ false → take_of t ≡ refused Internal t
unfolding take_of pick
take_unsound t e = rw e refl

pub take_none : (t : Places) → sound t ≡ true → t.packets ≡ 0 → take_of t ≡ refused ShouldWait t
unfolding take_of pick
take_none t e s = rw (e, eq-eqb t.packets 0 s) refl

pub take_done : (t : Places) → sound t ≡ true → 0 < t.packets
    → take_of t ≡ record { places = taken_of t; answer = Ok (Packet (packet_of (get_or (packets_of t) 0 free))) }
unfolding take_of pick
take_done t e h = rw (e, ne_eqb t.packets 0 (λ s. omega arith)) refl

-- where taking is asked and possible, and where it is not
pub take_possible : (asked : Bool) (t : Places) → (asked and sound t and not (eqb t.packets 0)) ≡ true → (used t ≤ 128) × (0 < t.packets)
take_possible asked t e =
    let r = both (sound t) (not (eqb t.packets 0)) (both asked (sound t and not (eqb t.packets 0)) e).1 in
    (leb-true (used t) 128 r.0, omega (arith, eqb-false t.packets 0 (not-true (eqb t.packets 0) r.1)))

pub take_if_on : (asked : Bool) (t : Places) → (asked and sound t and not (eqb t.packets 0)) ≡ true → taken_of t ≡ pick asked (take_of t).places t
unfolding pick ◌and◌
take_if_on true t e =
    let r = take_possible true t e in
    rw (take_done t (sound_below t r.0) r.1) refl
take_if_on false t e = absurd (false≢true e)
