-- The plain disposition by its numbers: a number above 2, numbers up to 2, and the whole pair once the waits are visited. Assumes nothing.
use Prim.Native.Nat.{ℕ}
use mathlib.Core.Path.{◌≡◌, refl, ap}
use mathlib.Core.Bool.{true, false}
use native.Mathlib.Omega.{arith}
use lib.Dec.{ltb}
use lib.ListN.{length}
use Rattle.definition.specs.declared.Status.{Status}
use Rattle.definition.specs.declared.Status.TheVariants.{InvalidArgs}
use Rattle.definition.specs.Status.{Answer}
use Rattle.std.specs.Result.{result_and}
use Rattle.std.specs.declared.result.Result.TheVariants.{Ok, Err}
use Rattle.definition.specs.declared.Ends.{Ends}
use Rattle.definition.specs.declared.Pair.{Pair}
use Rattle.definition.specs.Status.{pick, is_done, ◌then◌}
use Rattle.definition.specs.Pair.{is_one, own, peer, ends_of}
use Rattle.definition.specs.Tests.{opening_test, Steps}
use Rattle.definition.specs.Effect.{keeping_waits}
use Rattle.definition.specs.Disposition.{dispose_answer, dispose_effect, disposed, disposition_of, plain_dispose_answer}
use Rattle.endpoint.specs.declared.ends.EndsOutcome.{EndsOutcome}
use Rattle.endpoint.proofs.answer.Rules.{refuse_on, refuse_off}
use Rattle.endpoint.proofs.answer.Chains.{then_both}
use Rattle.answers.proofs.tests.Sound.{opening_passed}
use Rattle.control.specs.ByEffect.{moved_if}
use Rattle.socket.specs.Deferred.{settled_step}
use Rattle.socket.proofs.Controlled.{call-whole}

-- a refusal behind tests, as the library's `and` gives it
pub and_is_then : {g : Answer} (x a : Answer) → x ≡ g → result_and x a ≡ (g then a)
unfolding ◌then◌
and_is_then (Ok d) a e = rw (← e) refl
and_is_then (Err s) a e = rw (← e) refl

pub never_done : (g : Answer) (s : Status) → is_done (g then Err s) ≡ false
unfolding is_done ◌then◌
never_done (Ok d) s = refl
never_done (Err t) s = refl

-- ---- the answer

module _ (e : Ends) (h a b : ℕ) where
  pub first_above : ltb 2 a ≡ true → (opening_test e h then Err InvalidArgs) ≡ plain_dispose_answer e h a b
  unfolding plain_dispose_answer
  first_above w = ap (λ (x : Answer). opening_test e h then x) (refuse_on _ _ _ w)

  pub second_above : ltb 2 a ≡ false → ltb 2 b ≡ true → (opening_test e h then Err InvalidArgs) ≡ plain_dispose_answer e h a b
  unfolding plain_dispose_answer
  second_above v w = ap (λ (x : Answer). opening_test e h then x) (refuse_off _ _ _ _ v (refuse_on _ _ _ w))

  -- up to 2 the numbers are not refused, and the answer is that of what they ask
  pub within : ltb 2 a ≡ false → ltb 2 b ≡ false → dispose_answer e h (disposition_of a) (disposition_of b) ≡ plain_dispose_answer e h a b
  unfolding dispose_answer plain_dispose_answer
  within v w = ap (λ (x : Answer). opening_test e h then x) (refuse_off _ _ _ _ v (refuse_off _ _ _ _ w refl))

-- ---- the whole pair

pub dispose_whole : (p : Pair) (h : ℕ) (e : Ends) (r : EndsOutcome) → length p.places.table ≡ 128 → e ≡ ends_of p → (a b : ℕ)
    → r ≡ moved_if e h (plain_dispose_answer e h a b) (dispose_effect (own (is_one h) e) (peer (is_one h) e) (disposition_of a) (disposition_of b))
    → Steps p (plain_dispose_answer (ends_of p) h a b) (disposed (is_one h) (disposition_of a) (disposition_of b) p) (settled_step r p)
unfolding plain_dispose_answer disposed dispose_effect keeping_waits pick
dispose_whole p h e r l i a b g =
    call-whole p h (λ k. plain_dispose_answer k h a b) (λ k. dispose_effect (own (is_one h) k) (peer (is_one h) k) (disposition_of a) (disposition_of b)) e r l i (omega arith)
    (λ d. (opening_passed (ends_of p) h (then_both _ _ d).0).places) g
