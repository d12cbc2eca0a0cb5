-- written out, so that a wait registered by another test is refused for that test
use Rattle.socket.specs.Deferred.{registered_pair}
use Rattle.socket.proofs.Done.{is_ok_done}
use Rattle.socket.proofs.wait.registered.Goals as goal

pub returns : goal.returns
unfolding registered_pair
returns c = rw (c.registered-next.ensures, c.is_ok.ensures.value, is_ok_done _, c.own-e.ensures) at c.with_places.ensures
