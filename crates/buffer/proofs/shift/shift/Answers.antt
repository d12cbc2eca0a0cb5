use Prim.Native.Nat.{ℕ, ◌+◌, ◌-◌}
use borrow.Author.Rules.{rules}
use borrow.Author.Tests.{le-leb}
use lib.ListN.{length, take, drop}
use mathlib.Core.List.{◌++◌}
use mathlib.Core.Path.{◌≡◌, ap, ◌∙◌}
use native.Mathlib.Omega.{arith}
use Rattle.buffer.specs.shift.Shift.{shifted, moved}
use Rattle.definition.specs.Status.{pick, ◌and◌}
use Rattle.buffer.proofs.shift.shift.Goals as goal

pub returns-then-to-buffer : goal.returns-then-to-buffer
unfolding shifted pick ◌and◌ moved
returns-then-to-buffer c =
    let a = c.args in
    let b = a.buffer.now in
    let n = a.to - a.from in
    let e : 0 + n ≡ n = omega arith in
    rw (le-leb a.from a.to c.if-from-to.true, le-leb a.to (length b) c.if-to-buffer.true)
    (c.copy_within.ensures.after ∙ ap (λ (k : ℕ). take n (drop a.from b) ++ drop k b) e)

pub returns-else-from-to : goal.returns-else-from-to
unfolding shifted pick ◌and◌
returns-else-from-to c = search rules
