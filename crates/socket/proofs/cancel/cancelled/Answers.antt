use mathlib.Core.Path.{◌∙◌}
use Rattle.socket.proofs.Cancels.{cancel-steps}
use Rattle.socket.proofs.Done.{is_ok_done}
use Rattle.socket.proofs.Visiting.{places_128}
use Rattle.socket.proofs.cancel.cancelled.Goals as goal

pub returns : goal.returns
returns c =
    cancel-steps c.args.p c.args.handle c.args.key _ _ c.cancelled-left.result _ _ (places_128 c.args.p _ c.well_formed.0)
    (rw c.ends_of.ensures.ends at c.opening_test-opened.ensures)
    (c.is_ok.ensures.value ∙ is_ok_done _)
    c.cancelled-left.ensures
    c.with_places.ensures
    c.cancel_answer.ensures
