use Rattle.script_call.proofs.call.Calls.{wrote}
use Rattle.script_call.proofs.plain_call.Steps.{peer_ring-one, peer_ring-two, peer_table-one, peer_table-two, with_peer-one, with_peer-two}
use Rattle.script_call.specs.Lent.{lent_rings}
use Rattle.script_call.proofs.call.write.Goals as goal

pub returns-then-t-eq1-clause-made : goal.returns-then-t-eq1-clause-made
returns-then-t-eq1-clause-made c =
    let t = c.args.t in
    let one = c.if-t-eq1.true in
    let z = lent_rings c.args.lent.now in
    wrote _ _ _ _ _ _ z _ _ t _ (peer_ring-one z t.handle one) (peer_table-one z t.handle one) (with_peer-one z t.handle _ _ one)
    (rw c.buffer_of.ensures at c.write.ensures)

pub returns-clause-made : goal.returns-clause-made
returns-clause-made c =
    let t = c.args.t in
    let one = c.if-t-eq1.false in
    let z = lent_rings c.args.lent.now in
    wrote _ _ _ _ _ _ z _ _ t _ (peer_ring-two z t.handle one) (peer_table-two z t.handle one) (with_peer-two z t.handle _ _ one)
    (rw c.buffer_of-2.ensures at c.write-2.ensures)
