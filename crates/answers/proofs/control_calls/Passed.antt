-- What the tests of a wait, once passed, tell of the record. Assumes nothing.
use Prim.Native.Nat.{ℕ, ◌+◌, ◌<◌}
use mathlib.Core.Path.{◌≡◌, sym, ap, ◌∙◌}
use mathlib.Core.Bool.{true}
use native.Mathlib.Omega.{arith}
use borrow.Author.Tests.{leb-true, eqb-false}
use Rattle.definition.specs.Status.{Answer}
use Rattle.definition.specs.Status.{is_done}
use Rattle.endpoint.proofs.answer.Chains.{then_both, refuse_passed}
use Rattle.definition.specs.declared.Ends.{Ends}
use Rattle.answers.proofs.tests.Sound.{opening_passed}
use Rattle.definition.specs.Port.{wait_answer}

-- a wait that may be registered: a place is unused
pub wait-room : (p : Ends) (h edge : ℕ) (x : Answer) → x ≡ wait_answer p h edge → is_done x ≡ true → p.packets + p.waits < 128
unfolding wait_answer
wait-room p h edge x e d =
    let w = then_both _ _ (ap is_done (sym e) ∙ d) in
    let s = opening_passed p h w.0 in
    let r = then_both _ _ w.1 in
    omega (arith, leb-true (p.packets + p.waits) 128 s.places, eqb-false (p.packets + p.waits) 128 (refuse_passed _ _ r.1))
