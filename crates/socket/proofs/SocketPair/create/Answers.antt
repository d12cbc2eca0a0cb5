use mathlib.Core.Path.{◌∙◌}
use Rattle.socket.proofs.Created.{new_held}
use Rattle.socket.proofs.Done.{is_ok_done}
use Rattle.socket.proofs.SocketPair.create.Goals as goal

pub returns : goal.returns
returns c =
    let a = c.create_answer-a.ensures in
    record { answer = a; pair = (rw (c.is_ok.ensures.value, is_ok_done _, a) at c.pair_if.ensures) ∙ new_held _ _ _ _ _ _ _ _ _ }
