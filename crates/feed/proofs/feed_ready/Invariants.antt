use lib.ListN.{length}
use mathlib.Core.Path.{◌≡◌}
use Rattle.feed.proofs.Feeding.{Ready, SoFar, left}
use Rattle.script_call.specs.Lent.{SameLent, machine_with}
use Rattle.feed.proofs.feed_ready.Given as goal

abbrev pub invariant-loop-t : goal.invariant-loop-t
invariant-loop-t l =
    let i = l.initial in
    SoFar (machine_with i.t.state i.lent) l.offset l.input i.to.out.now (machine_with l.t.state l.lent) l.to.out.now l.t.from l.to.at l.t.more
    × Ready i.t.state l.offset (length l.input) (length i.lent.memory.now)
    × SameLent i.lent l.lent
    × (l.to.out.ghost_name ≡ i.to.out.ghost_name)

abbrev pub decreases-loop-t : goal.decreases-loop-t
decreases-loop-t l = left l.input l.t.from l.t.more
