use Rattle.line.proofs.call_line.Lines.{call_line}
use Rattle.line.proofs.call_line.put.Goals as goal

pub returns : goal.returns
returns c =
    let a = c.args in
    call_line a.tag a.body.now a.memory.now c.shown-one.ensures c.shown-two.ensures c.u64_at.ensures c.place_of-from.ensures c.count-n.ensures c.part-bytes.ensures c.line.ensures
