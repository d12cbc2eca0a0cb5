use Prim.Native.Nat.{◌+◌, ◌<◌}
use mathlib.Core.Path.{refl}
use native.Mathlib.Omega.{arith}
use Rattle.script_call.specs.Lent.{lent_rings}
use Rattle.buffer.proofs.buffer.Fronts.{advance_short, advance_done, no_wrap}
use Rattle.buffer.proofs.buffer.advance.Goals as goal

pub returns-then-buffer-p-clause-done : goal.returns-then-buffer-p-clause-done
returns-then-buffer-p-clause-done c =
    let a = c.args in
    advance_short a.p a.buffer.now a.lent.now.memory.now (lent_rings a.lent.now) a.out.now _ c.if-buffer-p.true refl

pub overflow_add-offset : goal.overflow_add-offset
overflow_add-offset c =
    let a = c.args in
    let h : a.p.offset < 18446744073709551616 = omega (arith, c.well_formed) in
    let f = c.feed-f in
    let n : a.p.offset + f.result.taken < 18446744073709551616 = no_wrap {z = lent_rings a.lent.now} {z' = lent_rings f.new.lent} f.ensures.done h in
    omega (arith, n)

pub returns-clause-done : goal.returns-clause-done
returns-clause-done c =
    let a = c.args in
    let f = c.feed-f in
    advance_done a.p _ a.buffer.now _ a.lent.now.memory.now f.new.lent.memory.now (lent_rings a.lent.now) (lent_rings f.new.lent) a.out.now f.new.out f.result _
    (omega (arith, c.if-buffer-p.false))
    refl f.ensures.done c.shift.ensures refl
