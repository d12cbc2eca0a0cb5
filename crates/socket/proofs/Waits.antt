-- A wait and a take, put together from the answer and the table. Assumes nothing.
use Prim.Native.Nat.{ℕ, ◌<◌}
use mathlib.Core.Path.{◌≡◌, refl, ap, ◌∙◌}
use mathlib.Core.Bool.{Bool, true, false, not}
use mathlib.Core.Logic.{⊎_elim}
use native.Mathlib.Omega.{arith}
use lib.ListN.{get_or}
use lib.Dec.{eqb, leb}
use borrow.Author.Tests.{eqb-false, leb-true, not-true}
use Rattle.definition.specs.declared.Status.TheVariants.{ShouldWait}
use Rattle.definition.specs.declared.Record.TheVariants.{Packet}
use Rattle.definition.specs.Status.{Answer}
use Rattle.std.specs.declared.result.Result.TheVariants.{Ok}
use Rattle.definition.specs.Status.{pick, ◌and◌, is_done, refuse_if, ◌then◌}
use Rattle.endpoint.proofs.answer.Chains.{both, then_both, refuse_passed}
use Rattle.definition.specs.declared.Places.{Places}
use Rattle.definition.specs.declared.Next.{Next}
use Rattle.definition.specs.Port.{used, sound, free, wait_of, appended_of, packets_of, packet_of, done, refused, register_of, take_of, wait_answer, waited, take_answer, took}
use Rattle.port.proofs.places.Lists.{either}
use Rattle.port.proofs.waits.Operations.{register_done}
use Rattle.port.proofs.packets.Operations.{take_done}
use Rattle.answers.proofs.tests.Sound.{sound-passed}
use Rattle.answers.proofs.control_calls.Passed.{wait-room}
use Rattle.definition.specs.declared.Pair.{Pair}
use Rattle.definition.specs.Pair.{is_one, own, ends_of, with_places}
use Rattle.definition.specs.Tests.{Steps}
use Rattle.port.specs.few.Few.{at_most_seven_used}
use Rattle.port.proofs.few.Cancelled.{appended_register}
use Rattle.definition.specs.Signal.{meets}
use Rattle.socket.specs.Deferred.{registered_pair, taken_pair, appends_few, appended_pair}

-- the next pair by the answer: the next table where the call is done, else the same pair
by_answer : (b c : Bool) (p q p' : Pair) (t : Places) → c ≡ b → p' ≡ with_places (pick c t p.places) p → (b ≡ true → with_places t p ≡ q) → p' ≡ pick b q p
unfolding pick with_places
by_answer true c p q p' t e f g = f ∙ rw e (g refl)
by_answer false c p q p' t e f g = f ∙ rw e refl

pub wait-steps : (p : Pair) (h key mask edge : ℕ) (x : Answer) (p' : Pair) → x ≡ wait_answer (ends_of p) h edge → p' ≡ registered_pair (is_done x) (is_one h) key mask edge p
    → Steps p (wait_answer (ends_of p) h edge) (waited (is_one h) key mask edge p) (record { pair = p'; answer = x })
unfolding waited registered_pair done
wait-steps p h key mask edge x p' e f =
    record {
      answer = e;
      pair =
          by_answer _ (is_done x) p _ p' _ (ap is_done e) f
          (λ w. ap (λ (n : Next). with_places n.places p)
          (register_done (is_one h) (own (is_one h) (ends_of p)).signals key mask (eqb edge 1) p.places (wait-room (ends_of p) h edge _ refl w)));
    }

-- a wait that does not fire as it is registered goes behind the others
pub few_registered : (asked t : Bool) (key mask edge : ℕ) (p : Pair) → appends_few t mask edge p ≡ true
    → appended_pair asked t key mask p ≡ registered_pair asked t key mask edge p
unfolding appends_few appended_pair registered_pair at_most_seven_used pick ◌and◌ done
few_registered asked t key mask edge p e =
    let w = (own t (ends_of p)).signals in
    let g = both _ _ e in
    let room = leb-true (used p.places) 7 g.1 in
    ap (λ (u : Places). with_places u p)
    (by asked w (eqb edge 1) (not-true _ g.0) g.1 (omega (arith, room)))
  where
    by : (a : Bool) (w : ℕ) (x : Bool) → (not x and meets w mask) ≡ false → leb (used p.places) 7 ≡ true → used p.places < 128
        → pick (a and leb (used p.places) 7) (appended_of (wait_of t key mask) p.places) p.places
        ≡ pick a (register_of t w key mask x p.places).places p.places
    by true w x n f r = rw f (appended_register t w key mask x p.places n r)
    by false w x n f r = refl

-- ---- take

-- the answer of a sound table
pub oldest_answer : (t : Places) → sound t ≡ true
    → (take_of t).answer ≡ (refuse_if (eqb t.packets 0) ShouldWait then Ok (Packet (packet_of (get_or (packets_of t) 0 free))))
unfolding take_of pick refused refuse_if ◌then◌
oldest_answer t s =
    ⊎_elim
    (λ (z : eqb t.packets 0 ≡ true). rw (s, z) refl)
    (λ (z : eqb t.packets 0 ≡ false). rw (s, z) refl)
    (either (eqb t.packets 0))

pub take_steps : (p : Pair) (x : Answer) (p' : Pair) → x ≡ take_answer p → p' ≡ taken_pair (is_done x) p → Steps p (take_answer p) (took p) (record { pair = p'; answer = x })
unfolding take_answer took taken_pair
take_steps p x p' e f =
    record {
      answer = e;
      pair =
          by_answer _ (is_done x) p _ p' _ (ap is_done e) f
          (λ w.
          let v = then_both _ _ w in
          let some : 0 < p.places.packets = omega (arith, eqb-false p.places.packets 0 (refuse_passed (eqb p.places.packets 0) ShouldWait (then_both _ _ v.1).0)) in
          ap (λ (n : Next). with_places n.places p) (take_done p.places (sound-passed (ends_of p) v.0).places some));
    }
