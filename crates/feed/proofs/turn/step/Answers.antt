use Rattle.feed.proofs.Turns.{step-done}
use Rattle.script_call.specs.Lent.{lent_rings}
use Rattle.feed.proofs.turn.step.Goals as goal

pub returns-clause-done : goal.returns-clause-done
returns-clause-done c =
    let a = c.args in
    let may = c.requires in
    let d = c.call-r in
    step-done a.st a.tag a.body.now a.lent.now.memory.now d.new.lent.memory.now c.settle.new.memory
    (lent_rings a.lent.now) (lent_rings d.new.lent) d.result c.is_last.result a.to.now c.put.new.to
    (d.ensures.made.made may.body) may.size d.ensures.same.memory.size c.put.ensures c.settle.ensures c.is_last.ensures
