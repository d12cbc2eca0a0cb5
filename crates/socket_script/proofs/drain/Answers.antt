-- Each call of `advance` leaves less to do and takes bytes, but the last, after which no move is left.
use Rattle.std.proofs.Common.{rules, arith, ◌≤◌, length, take, refl, ◌∙◌}
use Rattle.script_call.specs.Lent.{machine_with, lent_rings}
use Rattle.buffer.specs.blocks.Drain.{held, none, more}
use Rattle.buffer.proofs.blocks.Drains.{stands, onwards, ends, drained}
use Rattle.socket_script.proofs.drain.Goals as goal

pub loop-q-init : goal.loop-q-init
loop-q-init c =
    let a = c.args in
    (stands a.p (machine_with a.p.state a.lent.now) (take a.p.used a.buffer.now) c.requires.count, c.requires, refl, search rules, refl, none)

pub loop-q-preserved : goal.loop-q-preserved
loop-q-preserved c =
    let a = c.args in
    let l = c.loop-q in
    let i = l.invariant in
    let k = c.advance-q in
    let n = k.new in
    let m = machine_with a.p.state a.lent.now in
    let s = take a.p.used a.buffer.now in
    let used : l.q.used ≤ length l.buffer = omega (arith, i.0.within, i.1.used, i.2) in
    let size : length l.lent.memory.now ≤ 4096 = omega (arith, i.1.size, i.3.memory.size) in (
      onwards a.p m s l.q l.buffer n.buffer l.lent.memory.now n.lent.memory.now (lent_rings l.lent) (lent_rings n.lent) l.out n.out k.result i.0 k.ensures.done used i.1.total size,
      i.1,
      k.auto.buffer ∙ i.2,
      search rules,
      k.auto.out ∙ i.4,
      more {z = held k.result n.buffer n.lent.memory.now (lent_rings n.lent) n.out} i.5 k.ensures.done c.if-q-used.false,
    )

pub returns-clause-done : goal.returns-clause-done
returns-clause-done c =
    let a = c.args in
    let l = c.loop-q in
    let i = l.invariant in
    let k = c.advance-q in
    let n = k.new in
    let m = machine_with a.p.state a.lent.now in
    let s = take a.p.used a.buffer.now in
    let used : l.q.used ≤ length l.buffer = omega (arith, i.0.within, i.1.used, i.2) in
    let size : length l.lent.memory.now ≤ 4096 = omega (arith, i.1.size, i.3.memory.size) in
    let room : 8254 ≤ length l.out = omega (arith, i.1.room, i.4) in
    drained (held a.p a.buffer.now a.lent.now.memory.now (lent_rings a.lent.now) a.out.now) (held k.result n.buffer n.lent.memory.now (lent_rings n.lent) n.out)
    (held l.q l.buffer l.lent.memory.now (lent_rings l.lent) l.out, i.5, k.ensures.done, c.if-q-used.true)
    (onwards a.p m s l.q l.buffer n.buffer l.lent.memory.now n.lent.memory.now (lent_rings l.lent) (lent_rings n.lent) l.out n.out k.result i.0 k.ensures.done used i.1.total size)
    (ends a.p m s l.q l.buffer n.buffer l.lent.memory.now n.lent.memory.now (lent_rings l.lent) (lent_rings n.lent) l.out n.out k.result i.0 k.ensures.done used i.1.total size room
    c.if-q-used.true)
