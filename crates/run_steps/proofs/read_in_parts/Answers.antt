use mathlib.Core.Path.{refl}
use Rattle.endpoint.proofs.answer.Rules.{pick-on, pick_off}
use Rattle.socket.proofs.Done.{done_as}
use Rattle.syscall.proofs.Calls.{count-after}
use Rattle.run_steps.proofs.Lent.{in_parts}
use Rattle.run_steps.proofs.read_in_parts.Goals as goal

pub returns-then-is_ok : goal.returns-then-is_ok
returns-then-is_ok c =
    let b = c.read_bytes-r.ensures in
    in_parts b
    (count-after _ _ _ _ _ _ _ _ _ _ _ _ _ b
    (pick-on _ _ _ _ _ (done_as _ c.is_ok.ensures.value c.if-is_ok.true)
    (rw (← c.count_of-delivered.ensures) c.land_count.ensures)))

pub returns-else-is_ok : goal.returns-else-is_ok
returns-else-is_ok c =
    let b = c.read_bytes-r.ensures in
    in_parts b (count-after _ _ _ _ _ _ _ _ _ _ _ _ _ b (pick_off _ _ _ _ _ (done_as _ c.is_ok.ensures.value c.if-is_ok.false) refl))
