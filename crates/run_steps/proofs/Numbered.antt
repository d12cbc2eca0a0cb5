-- The plain disposition by value as the one by numbers: those of its enum are up to 2, and ask for what it asks. Assumes nothing.
use Prim.Native.Nat.{ℕ}
use mathlib.Core.Path.{◌≡◌, refl, ap, subst}
use mathlib.Core.Bool.{false}
use lib.Dec.{ltb}
use Rattle.definition.specs.Status.{Answer}
use Rattle.definition.specs.Status.{pick, ◌then◌}
use Rattle.endpoint.proofs.answer.Rules.{refuse_off}
use Rattle.definition.specs.declared.Disposition.{Disposition}
use Rattle.definition.specs.declared.Disposition.TheVariants.{Unchanged, Disable, Enable}
use Rattle.definition.specs.declared.Ends.{Ends}
use Rattle.definition.specs.Tests.{opening_test, Steps}
use Rattle.definition.specs.Disposition.{disposition_of, disposition_number, dispose_answer, disposed, plain_dispose_answer}
use Rattle.definition.specs.declared.Pair.{Pair}
use Rattle.definition.specs.declared.Step.{Step}
use Rattle.definition.specs.Pair.{is_one, ends_of}

number_back : (d : Disposition) → d ≡ disposition_of (disposition_number d)
unfolding disposition_of disposition_number pick
number_back Unchanged = refl
number_back Disable = refl
number_back Enable = refl

number-within : (d : Disposition) → ltb 2 (disposition_number d) ≡ false
unfolding disposition_number
number-within Unchanged = refl
number-within Disable = refl
number-within Enable = refl

answer_numbered : (e : Ends) (h : ℕ) (d f : Disposition) → dispose_answer e h d f ≡ plain_dispose_answer e h (disposition_number d) (disposition_number f)
unfolding dispose_answer plain_dispose_answer
answer_numbered e h d f =
    rw (← number_back d, ← number_back f)
    (ap (λ (x : Answer). opening_test e h then x) (refuse_off _ _ _ _ (number-within d) (refuse_off _ _ _ _ (number-within f) refl)))

pub steps_numbered : (p : Pair) (h : ℕ) (d f : Disposition) (r : Step) → Steps p (dispose_answer (ends_of p) h d f) (disposed (is_one h) d f p) r
    → Steps p (plain_dispose_answer (ends_of p) h (disposition_number d) (disposition_number f))
    (disposed (is_one h) (disposition_of (disposition_number d)) (disposition_of (disposition_number f)) p) r
steps_numbered p h d f r s =
    rw (← number_back d, ← number_back f)
    (subst (λ (x : Answer). Steps p x (disposed (is_one h) d f p) r) (answer_numbered (ends_of p) h d f) s)
