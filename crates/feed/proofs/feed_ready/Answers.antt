use Prim.Native.Nat.{◌+◌, ◌≤◌, ◌<◌}
use borrow.Author.Rules.{rules}
use lib.ListN.{length}
use mathlib.Core.Bool.{Bool}
use mathlib.Core.Path.{refl, sym, subst}
use native.Mathlib.Omega.{arith}
use Rattle.feed.proofs.Feeding.{ready, SoFar, begins, next, left, falls, done_full, done-stay, fed_into}
use Rattle.line.specs.line.LineDone.{LINE}
use Rattle.script_call.specs.Lent.{machine_with, lent_rings}
use Rattle.feed.proofs.feed_ready.Goals.{then-loop-t-test+else-has_room, else-loop-t-test}
use Rattle.feed.proofs.feed_ready.Goals as goal

pub loop-t-init : goal.loop-t-init
loop-t-init c =
    let a = c.args in
    (begins (machine_with a.st a.lent.now) a.offset a.input.now a.out.now, ready a.st a.offset (length a.input.now) (length a.lent.now.memory.now) c.requires, search rules, refl)

pub loop-t-smaller : goal.loop-t-smaller
loop-t-smaller c =
    let l = c.loop-t in
    let a = c.args in
    let k = c.turn-t in
    subst (λ (b : Bool). left a.input.now k.result.from k.result.more < left a.input.now l.t.from b) (sym c.loop-t-test.true)
    (falls (machine_with l.t.state l.lent) a.offset a.input.now l.t.from k.new.lent.memory.now (lent_rings k.new.lent) l.to k.new.to k.result l.invariant.0.within k.ensures.done)

pub loop-t-preserved : goal.loop-t-preserved
loop-t-preserved c =
    let l = c.loop-t in
    let a = c.args in
    let k = c.turn-t in
    let first = machine_with a.st a.lent.now in
    let m = machine_with l.t.state l.lent in
    let i = subst (λ (b : Bool). SoFar first a.offset a.input.now a.out.now m l.to.out.now l.t.from l.to.at b) c.loop-t-test.true l.invariant.0 in
    let room : l.to.at + LINE ≤ length l.to.out.now = c.has_room.ensures.yes c.if-has_room.true in (
      next first m a.offset a.input.now a.out.now l.t.from k.new.lent.memory.now (lent_rings k.new.lent) l.to k.new.to k.result i k.ensures.done room,
      l.invariant.1,
      search rules,
      search rules,
    )

pub returns-clause-done : goal.returns-clause-done
returns-clause-done c =
    let l = c.loop-t in
    let a = c.args in
    let first = machine_with a.st a.lent.now in
    fed_into (search rules) (elim c.loop-t-test.branch [
      | then-loop-t-test+else-has_room w ↦
          done_full first a.offset a.input.now a.out.now l.t.state l.lent.memory.now (lent_rings l.lent) l.to.out.now l.t.from l.to.at l.t.more l.invariant.0
          (let z = w.has_room.ensures.no w.if-has_room.false in omega (arith, z))
          c.requires
      | else-loop-t-test w ↦
          done-stay first a.offset a.input.now a.out.now l.t.state l.lent.memory.now (lent_rings l.lent) l.to.out.now l.t.from l.to.at l.t.more l.invariant.0 w.loop-t-test.false
          c.requires
    ])
