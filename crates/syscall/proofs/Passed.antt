-- What the tests of a disposition by numbers and of a shutdown by bits, once passed, tell: the plain call then answers the same. Assumes nothing.
use Prim.Native.Nat.{ℕ}
use mathlib.Core.Path.{◌≡◌, sym, ap, ◌∙◌}
use mathlib.Core.Bool.{Bool, true}
use Rattle.definition.specs.declared.Status.{Status}
use Rattle.definition.specs.Status.{is_done, refuse_if, refuse_unless, ok}
use Rattle.endpoint.proofs.answer.Rules.{pass_last, pass_unless}
use Rattle.endpoint.proofs.answer.Chains.{then_both, then_is, refuse_passed, unless_passed}
use Rattle.definition.specs.Disposition.{dispose_answer as endsDisposeAnswer, dispose_answer, user_dispose_answer as endsUserDisposeAnswer, disposition_of, user_dispose_answer}
use Rattle.definition.specs.Tests.{opening_test, handle_test as endsHandleTest}
use Rattle.definition.specs.declared.Ends.{Ends}
use Rattle.definition.specs.Shutdown.{user_shutdown_answer as endsUserShutdownAnswer, user_shutdown_answer}
use Rattle.definition.specs.Memory.{lookup}

-- a test that passed, as an answer
unless_ok : (b : Bool) (s : Status) → is_done (refuse_unless b s) ≡ true → refuse_unless b s ≡ ok
unless_ok b s d = sym (pass_unless b s (unless_passed b s d))

refuse_ok : (b : Bool) (s : Status) → is_done (refuse_if b s) ≡ true → refuse_if b s ≡ ok
refuse_ok b s d = sym (pass_last b s (refuse_passed b s d))

pub dispose_passed : (e : Ends) (h a b : ℕ) → is_done (user_dispose_answer e h a b) ≡ true
    → dispose_answer e h (disposition_of a) (disposition_of b) ≡ user_dispose_answer e h a b
unfolding endsUserDisposeAnswer endsDisposeAnswer opening_test lookup
dispose_passed e h a b d =
    let s = then_both _ _ d in
    let u = then_both _ _ s.1 in
    let v = then_both _ _ u.1 in
    let f = then_both _ _ v.1 in
    then_is _ _ (ap is_done (then_is _ _ s.0) ∙ (then_both _ _ f.0).0)
    ∙ sym (then_is _ _ s.0 ∙ then_is _ _ u.0 ∙ then_is _ _ v.0 ∙ then_is _ _ f.0)

pub shutdown-passed : (e : Ends) (h : ℕ) → is_done (user_shutdown_answer e h) ≡ true → opening_test e h ≡ user_shutdown_answer e h
unfolding endsUserShutdownAnswer opening_test lookup endsHandleTest
shutdown-passed e h d =
    let s = then_both _ _ d in
    let f = then_both _ _ s.1 in
    then_is _ _ s.0 ∙ unless_ok _ _ f.0 ∙ sym (then_is _ _ s.0 ∙ then_is _ _ f.0 ∙ refuse_ok _ _ f.1)
