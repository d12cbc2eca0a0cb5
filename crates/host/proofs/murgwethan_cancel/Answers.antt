use mathlib.Core.Path.{refl}
use Rattle.std.specs.declared.result.Result.TheVariants.{Ok}
use Rattle.definition.specs.declared.Record.TheVariants.{Count}
use Rattle.definition.specs.Status.{answer_word, record_count}
use Rattle.socket.proofs.Cancels.{one-steps}
use Rattle.host.proofs.murgwethan_cancel.Goals as goal

pub returns-in-Some : goal.returns-in-Some
unfolding answer_word record_count
returns-in-Some c =
    let a = c.args in
    let only = c.only_match.ensures in
    record { answer = Ok (Count 1); word = refl; kept = one-steps a.p.now a.handle a.key _ _ only.size (rw c.in-Some.is at only.place) c.without_place.ensures }
