-- What is left to do stays what the bytes at hand make the machine do, and calls of `advance` led here, each of which took bytes.
use Rattle.std.proofs.Common.{◌≡◌, length, take}
use Rattle.script_call.specs.Lent.{SameLent, machine_with, lent_rings}
use Rattle.buffer.specs.blocks.Drain.{DrainMay, held, Advances}
use Rattle.buffer.proofs.blocks.Drains.{Stands}
use Rattle.socket_script.proofs.drain.Given as goal

abbrev pub invariant-loop-q : goal.invariant-loop-q
invariant-loop-q l =
    let i = l.initial in
    Stands i.q (machine_with i.q.state i.lent) (take i.q.used i.buffer) l.q (machine_with l.q.state l.lent) (take l.q.used l.buffer)
    × DrainMay i.q i.buffer i.lent.memory.now i.out
    × (length l.buffer ≡ length i.buffer)
    × SameLent i.lent l.lent
    × (length l.out ≡ length i.out)
    × Advances (held i.q i.buffer i.lent.memory.now (lent_rings i.lent) i.out) (held l.q l.buffer l.lent.memory.now (lent_rings l.lent) l.out)

-- each turn but the last takes bytes
abbrev pub decreases-loop-q : goal.decreases-loop-q
decreases-loop-q l = l.q.used
