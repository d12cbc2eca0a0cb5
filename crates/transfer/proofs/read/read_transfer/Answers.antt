use Rattle.transfer.proofs.read.Moved.{read_drains}
use Rattle.transfer.proofs.read.Outcomes.{read_none, read-some}
use Rattle.transfer.proofs.read.read_transfer.Goals as goal

pub returns-then-k-eq0 : goal.returns-then-k-eq0
returns-then-k-eq0 c =
    let a = c.args in
    read_none a.p a.handle a.peek a.table.now _ _ c.count_of-k.ensures a.ring.now a.buffer.now c.read_answer-answer.ensures c.if-k-eq0.true _ c.kept.ensures

pub deliver-requires : goal.deliver-requires
deliver-requires c =
    let a = c.args in
    let f = read_drains a.p a.handle a.ring.now a.table.now _ _ _ c.read_answer-answer.ensures c.count_of-k.ensures c.if-k-eq0.false in
    rw c.own.ensures (f.drain.start, f.most, f.long, f.fits)

pub drain-change-requires : goal.drain-change-requires
drain-change-requires c =
    let a = c.args in
    let f = read_drains a.p a.handle a.ring.now a.table.now _ _ _ c.read_answer-answer.ensures c.count_of-k.ensures c.if-k-eq0.false in
    rw (c.first_length-first.ensures, c.own.ensures) (c.if-k-eq0.false, f.drain)

pub returns : goal.returns
returns c =
    let a = c.args in
    let f = rw (c.first_length-first.ensures, c.own.ensures) at c.drain-change.ensures in
    read-some a.p a.handle a.peek a.table.now _ _ c.count_of-k.ensures a.ring.now a.buffer.now c.read_answer-answer.ensures _ _ c.if-k-eq0.false
    (rw c.own.ensures at c.deliver.ensures) f
