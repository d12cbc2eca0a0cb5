use mathlib.Core.Path.{refl, ap, sym, ◌∙◌}
use Rattle.definition.specs.Status.{is_done}
use Rattle.control.proofs.ends.Outcomes.{refused}
use Rattle.syscall.proofs.Passed.{shutdown-passed}
use Rattle.syscall.proofs.deferred.shutdown_ends.Goals as goal

pub returns-in-Err : goal.returns-in-Err
unfolding is_done
returns-in-Err c = c.unchanged.ensures ∙ refused _ _ _ _ _ c.in-Err.ensures refl

pub returns-in-Ok : goal.returns-in-Ok
unfolding is_done
returns-in-Ok c =
    let same = shutdown-passed c.args.e c.args.handle (ap is_done (sym c.in-Ok.ensures)) in
    rw (c.has_bit-read.ensures, c.has_bit-write.ensures, same) at c.shutdown_ends.ensures
