use native.Mathlib.Omega.{arith}
use Rattle.ring.proofs.copy.Laws.{place-lt}
use Rattle.transfer.proofs.read.drained_queue.Goals as goal

pub overflow_cast-q-2 : goal.overflow_cast-q-2
overflow_cast-q-2 c =
    let a = c.args in
    let d = c.requires in
    omega (arith, c.place-start.ensures, place-lt a.capacity a.q.bytes.start a.n d.start (omega arith))

pub overflow_cast-q-then-datagram-2 : goal.overflow_cast-q-then-datagram-2
overflow_cast-q-then-datagram-2 c =
    let a = c.args in
    let d = c.requires in
    omega (arith, c.place-next.ensures, place-lt a.capacity a.q.lengths.start 1 d.first (omega arith))
