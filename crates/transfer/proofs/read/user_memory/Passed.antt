-- What the tests of a read over user memory, once passed, tell: the read without user memory then answers the same, and the ranges fit.
-- Assumes nothing.
use Prim.Native.Nat.{ℕ, ◌≤◌}
use mathlib.Core.Path.{◌≡◌, sym, ap, ◌∙◌}
use mathlib.Core.Bool.{true}
use native.Mathlib.Omega.{arith}
use Rattle.definition.specs.Status.{Answer}
use Rattle.definition.specs.declared.Ends.{Ends}
use Rattle.definition.specs.Memory.{fits, count_fits}
use Rattle.definition.specs.Pair.{is_one, own, peer}
use Rattle.definition.specs.Read.{read_size, read_answer, user_read_answer}
use Rattle.definition.specs.Status.{is_done, count_of}
use Rattle.definition.specs.Tests.{Lent}
use Rattle.endpoint.proofs.answer.Chains.{then_both, then_is, unless_passed}
use Rattle.answers.proofs.tests.Sound.{SoundEnds, sound-passed}
use Rattle.transfer.proofs.change.UserMemory.{handle_passed}
use Rattle.transfer.proofs.read.Moved.{read_fits}

-- a read that is done
pub record ReadPassed (e : Ends) (z : Lent) (h base size address n countAt : ℕ) (x : Answer) : Type 0 where
  pub sound : SoundEnds e
  pub plain : x ≡ read_answer e z h n
  pub most : count_of x ≤ n
  pub bytes : fits base size address n ≡ true
  pub count : count_fits base size countAt ≡ true

pub read-passed : (e : Ends) (z : Lent) (h base size options address n countAt : ℕ) (x : Answer)
    → x ≡ user_read_answer e z h base size options address n countAt → is_done x ≡ true → ReadPassed e z h base size address n countAt x
unfolding user_read_answer read_answer
read-passed e z h base size options address n countAt x told d =
    let s = then_both _ _ (ap is_done (sym told) ∙ d) in
    let l = then_both _ _ s.1 in
    let u = then_both _ _ l.1 in
    let o = then_both _ _ u.1 in
    let f = then_both _ _ o.1 in
    let b = then_both _ _ f.1 in
    let c = then_both _ _ b.1 in
    let is : x ≡ read_size e.datagram (own (is_one h) e) (peer (is_one h) e) z.first n
    = told
    ∙ then_is _ _ s.0
    ∙ then_is _ _ l.0
    ∙ then_is _ _ u.0
    ∙ then_is _ _ o.0
    ∙ then_is _ _ f.0
    ∙ then_is _ _ b.0
    ∙ then_is _ _ c.0 in
    let some = (read_fits e.datagram (own (is_one h) e) (peer (is_one h) e) z.first n c.1).1 in
    record {
      sound = sound-passed e s.0;
      plain = is ∙ sym (then_is _ _ s.0 ∙ then_is _ _ l.0 ∙ then_is _ _ (handle_passed e h 1 f.0));
      most = omega (arith, ap count_of is, some);
      bytes = unless_passed _ _ b.0;
      count = unless_passed _ _ c.0;
    }
