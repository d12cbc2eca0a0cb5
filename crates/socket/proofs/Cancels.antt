-- A cancel, put together from its first tests and the table that is left. Assumes nothing.
use Prim.Native.Nat.{ℕ, ◌≤◌}
use mathlib.Core.Path.{◌≡◌, refl, sym, ap, ◌∙◌}
use mathlib.Core.Bool.{Bool, true, false, not}
use mathlib.Core.Logic.{⊎_elim}
use native.Mathlib.Omega.{arith}
use lib.ListN.{length}
use lib.Dec.{eqb, ltb}
use borrow.Author.Tests.{eqb-true, leb-true}
use Rattle.definition.specs.Status.{Answer}
use Rattle.std.specs.Prelude.{Option, Some, None}
use Rattle.std.specs.declared.result.Result.TheVariants.{Ok}
use Rattle.definition.specs.declared.Record.TheVariants.{Count}
use Rattle.definition.specs.declared.Status.TheVariants.{NotFound}
use Rattle.definition.specs.declared.Pair.{Pair}
use Rattle.definition.specs.declared.Places.{Places}
use Rattle.definition.specs.Status.{pick, ◌and◌, is_done, refuse_if, ◌then◌}
use Rattle.definition.specs.Pair.{is_one, ends_of, with_places}
use Rattle.definition.specs.Tests.{opening_test, Steps}
use Rattle.definition.specs.Port.{used, sound, matching, cancelled_of, cancel_answer, cancelled}
use Rattle.port.specs.declared.cancel.Remaining.{Remaining}
use Rattle.port.proofs.places.Lists.{either}
use Rattle.port.specs.few.Few.{only_match, is_among_eight, without_place}
use Rattle.port.proofs.cancel.Kept.{none-cancelled}
use Rattle.port.proofs.few.Cancelled.{only_one}
use Rattle.endpoint.proofs.answer.Rules.{then_stop, then_go}
use Rattle.answers.proofs.tests.Sound.{opening_passed}
use Rattle.socket.proofs.Steps.{steps-refused, steps-done}

-- what the table's own cancel leaves, where the call passed its first tests and where it did not
abbrev leaves : (asked : Bool) → Pair → (h key : ℕ) → Remaining
leaves asked p h key =
    record {
      places = pick (asked and sound p.places) (cancelled_of (is_one h) key p.places) p.places;
      removed = pick (asked and sound p.places) (matching (is_one h) key p.places) 0;
    }

abbrev answered : Answer → (removed : ℕ) → Answer
answered x n = x then refuse_if (eqb n 0) NotFound then Ok (Count n)

-- the pair with its own places
own-places : (p : Pair) → with_places p.places p ≡ p
unfolding with_places
own-places p = refl

-- whether a cancel that passed its first tests is done
by_count : (x : Answer) (n : ℕ) (z : Bool) → is_done x ≡ true → eqb n 0 ≡ z → is_done (answered x n) ≡ not z
unfolding refuse_if ◌then◌ is_done
by_count x n true o e = sym (ap is_done (then_go x x _ _ refl o refl)) ∙ rw e refl
by_count x n false o e = sym (ap is_done (then_go x x _ _ refl o refl)) ∙ rw e refl

-- a cancel that passed its first tests
passed : (p : Pair) (h key : ℕ) → length p.places.table ≡ 128 → sound p.places ≡ true → is_done (opening_test (ends_of p) h) ≡ true
    → Steps p (cancel_answer p h key) (cancelled (is_one h) key p)
    (record { pair = with_places (cancelled_of (is_one h) key p.places) p; answer = answered (opening_test (ends_of p) h) (matching (is_one h) key p.places) })
unfolding cancel_answer cancelled
passed p h key l s o =
    let n = matching (is_one h) key p.places in
    let within : used p.places ≤ length p.places.table = omega (arith, leb-true (used p.places) 128 s, l) in
    ⊎_elim
    (λ (z : eqb n 0 ≡ true).
    steps-refused p _ _ _ _ refl (by_count (opening_test (ends_of p) h) n true o z)
    (ap (λ (k : Places). with_places k p) (none-cancelled (is_one h) key p.places within (eqb-true n 0 z)) ∙ own-places p))
    (λ (z : eqb n 0 ≡ false). steps-done p _ _ _ _ refl (by_count (opening_test (ends_of p) h) n false o z) refl)
    (either (eqb n 0))

pub cancel-steps : (p : Pair) (h key : ℕ) (o : Answer) (d : Bool) (n : Remaining) (q : Pair) (x : Answer) → length p.places.table ≡ 128
    → o ≡ opening_test (ends_of p) h → d ≡ is_done o → n ≡ leaves d p h key → q ≡ with_places n.places p → x ≡ answered o n.removed
    → Steps p (cancel_answer p h key) (cancelled (is_one h) key p) (record { pair = q; answer = x })
unfolding pick ◌and◌ with_places cancel_answer
cancel-steps p h key o d n q x l fo fd fn fq fx = rw (fq, fx, fn, fd, fo) (by (is_done (opening_test (ends_of p) h)) refl)
  where
    by : (b : Bool) → is_done (opening_test (ends_of p) h) ≡ b
        → Steps p (cancel_answer p h key) (cancelled (is_one h) key p)
        (record {
          pair = with_places (leaves (is_done (opening_test (ends_of p) h)) p h key).places p;
          answer = answered (opening_test (ends_of p) h) (leaves (is_done (opening_test (ends_of p) h)) p h key).removed;
        })
    by true e = let s = (opening_passed (ends_of p) h e).places in rw (e, s) (passed p h key l s e)
    by false e =
        let stops : opening_test (ends_of p) h ≡ cancel_answer p h key = then_stop _ _ _ refl e in
        let stopped : opening_test (ends_of p) h ≡ answered (opening_test (ends_of p) h) 0 = then_stop _ _ _ refl e in
        rw e (steps-refused p p _ _ _ (sym stopped ∙ stops) (ap is_done (sym stopped) ∙ e) refl)

-- ---- a cancel that takes one place out of at most 8

passed-one : Ok (Count 1) ≡ (refuse_if (eqb 1 0) NotFound then Ok (Count 1))
unfolding refuse_if ◌then◌
passed-one = refl

-- the place of the only match, where there is one
found : (m k : ℕ) → ◌≡◌ {A = Option ℕ} (Some k) (pick (ltb m 8) (Some m) None) → (k ≡ m) × (ltb k 8 ≡ true)
unfolding pick
found m k e = by (ltb m 8) refl
  where
    by : (b : Bool) → ltb m 8 ≡ b → (k ≡ m) × (ltb k 8 ≡ true)
    by true w = let z : ◌≡◌ {A = Option ℕ} (Some k) (Some m) = rw w at e in let s : k ≡ m = cc in (s, rw s w)
    by false w = let z : ◌≡◌ {A = Option ℕ} (Some k) None = rw w at e in (cc)

pub one-steps : (p : Pair) (h key k : ℕ) (q : Pair) → length p.places.table ≡ 128
    → (let m = only_match (is_done (opening_test (ends_of p) h)) (is_one h) key p.places in ◌≡◌ {A = Option ℕ} (Some k) (pick (ltb m 8) (Some m) None))
    → q ≡ with_places (pick (is_among_eight k p.places) (without_place k p.places) p.places) p
    → Steps p (cancel_answer p h key) (cancelled (is_one h) key p) (record { pair = q; answer = Ok (Count 1) })
unfolding cancel_answer cancelled pick is_done
one-steps p h key k q l e f =
    let t = p.places in
    let at = found _ k e in
    let w = only_one (is_done (opening_test (ends_of p) h)) (is_one h) key t k l at.0 at.1 in
    let a : Ok (Count 1) ≡ cancel_answer p h key =
    then_go (opening_test (ends_of p) h) (opening_test (ends_of p) h) _ (Ok (Count 1)) refl w.done (counted-one (matching (is_one h) key t) w.count) in
    record {
      answer = a;
      pair = f ∙ ap (λ (u : Places). with_places u p) w.left ∙ ap (λ (x : Answer). pick (is_done x) (with_places (cancelled_of (is_one h) key t) p) p) a;
    }
  where
    counted-one : (n : ℕ) → n ≡ 1 → Ok (Count 1) ≡ (refuse_if (eqb n 0) NotFound then Ok (Count n))
    counted-one n e = rw e passed-one
