-- Blocks were read and fed up to here.
use Rattle.std.proofs.Common.{◌≤◌, ◌≡◌, ◌+◌, ◌-◌, length}
use Rattle.feed.specs.Turn.{LIMIT}
use Rattle.script_call.specs.Lent.{SameLent, lent_rings}
use Rattle.buffer.specs.blocks.Drain.{held}
use Rattle.buffer.specs.blocks.BlocksRun.{RunMay, Blocks}
use Rattle.socket_script.proofs.run.Given as goal

abbrev pub invariant-loop-buffer : goal.invariant-loop-buffer
invariant-loop-buffer l =
    let i = l.initial in
    (l.p.used ≤ length i.buffer)
    × RunMay i.lent.memory.now (lent_rings i.lent) i.buffer i.out
    × SameLent i.lent l.lent
    × (length l.buffer ≡ length i.buffer)
    × (length l.out ≡ length i.out)
    × (l.p.offset + l.p.used ≤ LIMIT)
    × (l.p.state.number ≤ l.p.offset)
    × Blocks (held i.p i.buffer i.lent.memory.now (lent_rings i.lent) i.out) (held l.p l.buffer l.lent.memory.now (lent_rings l.lent) l.out)

-- each block has a byte or more, and none is read past LIMIT
abbrev pub decreases-loop-buffer : goal.decreases-loop-buffer
decreases-loop-buffer l = LIMIT - (l.p.offset + l.p.used)
