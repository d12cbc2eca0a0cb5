use Rattle.socket.proofs.Waits.{wait-steps}
use Rattle.socket.proofs.SocketPair.wait.Goals as goal

pub returns : goal.returns
returns c =
    wait-steps c.args.self.inner c.args.handle c.args.key c.args.mask c.args.edge _ _ (rw c.ends_of.ensures.ends at c.wait_answer-a.ensures) c.registered.ensures
