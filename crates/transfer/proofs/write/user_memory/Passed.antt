-- What the tests of a write over user memory, once passed, tell: the write without user memory then answers the same, and the ranges fit.
-- Assumes nothing.
use Prim.Native.Nat.{ℕ}
use mathlib.Core.Path.{◌≡◌, sym, ap, ◌∙◌}
use mathlib.Core.Bool.{true}
use Rattle.definition.specs.Status.{Answer}
use Rattle.definition.specs.declared.Ends.{Ends}
use Rattle.definition.specs.Memory.{fits, count_fits}
use Rattle.definition.specs.Pair.{is_one, own, peer}
use Rattle.definition.specs.Status.{is_done, count_of}
use Rattle.definition.specs.Tests.{Lent}
use Rattle.definition.specs.Write.{write_size, write_answer, write_ranges, user_write_answer}
use Rattle.endpoint.proofs.answer.Chains.{then_both, then_is, unless_passed}
use Rattle.answers.proofs.tests.Sound.{SoundEnds, sound-passed}
use Rattle.transfer.proofs.change.UserMemory.{handle_passed}

-- the answer to the write's size, once the ranges passed
record RangesPassed (base size address countAt : ℕ) (a : Answer) : Type 0 where
  pub bytes : fits base size address (count_of a) ≡ true
  pub count : count_fits base size countAt ≡ true
  pub rest : write_ranges base size address countAt a ≡ a

ranges_passed : (base size address countAt : ℕ) (a : Answer) → is_done (write_ranges base size address countAt a) ≡ true
    → RangesPassed base size address countAt a
unfolding write_ranges
ranges_passed base size address countAt a d =
    let s = then_both _ _ d in
    let b = then_both _ _ s.1 in
    let c = then_both _ _ b.1 in
    record {
      bytes = unless_passed _ _ b.0;
      count = unless_passed _ _ c.0;
      rest = then_is _ _ s.0 ∙ then_is _ _ b.0 ∙ then_is _ _ c.0;
    }

-- a write that is done
pub record WritePassed (e : Ends) (z : Lent) (h base size address n countAt : ℕ) (x : Answer) : Type 0 where
  pub sound : SoundEnds e
  pub plain : x ≡ write_answer e z h n
  pub bytes : fits base size address (count_of x) ≡ true
  pub count : count_fits base size countAt ≡ true

pub write-passed : (e : Ends) (z : Lent) (h base size options address n countAt : ℕ) (x : Answer)
    → x ≡ user_write_answer e z h base size options address n countAt → is_done x ≡ true → WritePassed e z h base size address n countAt x
unfolding user_write_answer write_answer
write-passed e z h base size options address n countAt x told d =
    let s = then_both _ _ (ap is_done (sym told) ∙ d) in
    let l = then_both _ _ s.1 in
    let o = then_both _ _ l.1 in
    let u = then_both _ _ o.1 in
    let f = then_both _ _ u.1 in
    let r = ranges_passed base size address countAt _ f.1 in
    let is : x ≡ write_size e.datagram e.capacity (own (is_one h) e) (peer (is_one h) e) n
    = told ∙ then_is _ _ s.0 ∙ then_is _ _ l.0 ∙ then_is _ _ o.0 ∙ then_is _ _ u.0 ∙ then_is _ _ f.0 ∙ r.rest in
    record {
      sound = sound-passed e s.0;
      plain = is ∙ sym (then_is _ _ s.0 ∙ then_is _ _ l.0 ∙ then_is _ _ (handle_passed e h 2 f.0));
      bytes = rw is r.bytes;
      count = r.count;
    }
