-- What the stored pair is, by the way that the code went. Assumes nothing.
use Prim.Native.Nat.{ℕ}
use mathlib.Core.Path.{◌≡◌, refl, sym, ap, ◌∙◌}
use mathlib.Core.Bool.{Bool, true}
use lib.Dec.{T, eqb}
use Rattle.definition.specs.Status.{Answer}
use Rattle.definition.specs.Status.{pick, is_done}
use Rattle.endpoint.proofs.answer.Rules.{on-pick, pick-on}
use Rattle.port.specs.places.Table.{unused}
use Rattle.definition.specs.Pair.{is_one}
use Rattle.socket.specs.Deferred.{registered_pair, appends_few, appended_pair}
use Rattle.socket.proofs.Waits.{few_registered}
use Rattle.definition.specs.Create.{create_answer, new_pair}
use Rattle.answers.specs.create.Held.{held_rights}
use Rattle.definition.specs.declared.Pair.{Pair}
use Rattle.socket.proofs.Created.{new_held}
use Rattle.definition.specs.Tests.{Steps}

pub created_steps : (p : Pair) (kind C r s ring1 table1 ring2 table2 : ℕ) (a : Answer) (q : Pair) → a ≡ create_answer kind C r s ring1 table1 ring2 table2
    → q ≡ pick (is_done a) (new_pair (eqb kind 1) C (held_rights r) (held_rights s)) p
    → Steps p (create_answer kind C r s ring1 table1 ring2 table2) (new_pair (eqb kind 1) C r s) (record { pair = q; answer = a })
created_steps p kind C r s ring1 table1 ring2 table2 a q e g =
    record {
      answer = e;
      pair = g ∙ ap (λ (k : Answer). pick (is_done k) (new_pair (eqb kind 1) C (held_rights r) (held_rights s)) p) e ∙ new_held kind C r s ring1 table1 ring2 table2 p;
    }

pub waited-on : (p q : Pair) (b : Bool) (n : Pair) → b ≡ unused p.places → T b → q ≡ pick (unused p.places) n p → q ≡ n
waited-on p q b n e t g = g ∙ sym (on-pick (unused p.places) b n p e t)

-- a choice whose test came out true
pub pick_taken : {A : Type 0} {r b : Bool} {n q : A} (p : A) → r ≡ b → r ≡ true → q ≡ pick b n p → q ≡ n
pick_taken {A} {r} {b} {n} {q} p e t g = g ∙ sym (pick-on A b n n p (sym e ∙ t) refl)

pub few_waited_on : (p q : Pair) (asked : Bool) (h key mask edge : ℕ) → appends_few (is_one h) mask edge p ≡ true
    → q ≡ appended_pair asked (is_one h) key mask p → q ≡ registered_pair asked (is_one h) key mask edge p
few_waited_on p q asked h key mask edge e g = g ∙ few_registered asked (is_one h) key mask edge p e
