use native.Mathlib.Omega.{arith}
use Rattle.transfer.proofs.write.Moved.{write_feeds}
use Rattle.transfer.proofs.write.Outcomes.{wrote_none, wrote-some}
use Rattle.transfer.proofs.write.write_transfer.Goals as goal

pub returns-then-m-eq0 : goal.returns-then-m-eq0
returns-then-m-eq0 c =
    let a = c.args in
    wrote_none a.p a.handle _ _ c.count_of-m.ensures a.bytes.now a.ring.now a.table.now c.write_answer-answer.ensures c.if-m-eq0.true _ c.kept.ensures

pub feed-requires : goal.feed-requires
feed-requires c =
    let a = c.args in
    write_feeds a.p a.handle a.bytes.now a.ring.now a.table.now _ _ _ c.write_answer-answer.ensures c.count_of-m.ensures c.if-m-eq0.false (λ l. l)

pub fed-requires : goal.fed-requires
fed-requires c =
    let a = c.args in
    let f = write_feeds a.p a.handle a.bytes.now a.ring.now a.table.now _ _ _ c.write_answer-answer.ensures c.count_of-m.ensures c.if-m-eq0.false (λ l. l) in
    (f.fits, λ d. let l = f.lengths d in omega (arith, l, f.small))

pub returns : goal.returns
returns c =
    let a = c.args in
    wrote-some a.p a.handle _ _ c.count_of-m.ensures a.bytes.now a.ring.now a.table.now c.write_answer-answer.ensures _ _ _ c.if-m-eq0.false c.fed.ensures
    c.feed.ensures.ring_after c.feed.ensures.table_after
