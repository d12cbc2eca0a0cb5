use Rattle.script_call.proofs.call.Calls.{got}
use Rattle.script_call.proofs.plain_call.Steps.{own_ring-one, own_ring-two, own_table-one, own_table-two}
use Rattle.script_call.specs.Lent.{lent_rings}
use Rattle.script_call.proofs.call.read.Goals as goal

pub returns-then-t-eq1-clause-made : goal.returns-then-t-eq1-clause-made
returns-then-t-eq1-clause-made c =
    let t = c.args.t in
    let one = c.if-t-eq1.true in
    let z = lent_rings c.args.lent.now in
    got _ _ _ _ z _ t _ (own_ring-one z t.handle one) (own_table-one z t.handle one)
    (rw c.buffer_of.ensures at c.read_bytes.ensures)

pub returns-clause-made : goal.returns-clause-made
returns-clause-made c =
    let t = c.args.t in
    let one = c.if-t-eq1.false in
    let z = lent_rings c.args.lent.now in
    got _ _ _ _ z _ t _ (own_ring-two z t.handle one) (own_table-two z t.handle one)
    (rw c.buffer_of-2.ensures at c.read_bytes-2.ensures)
