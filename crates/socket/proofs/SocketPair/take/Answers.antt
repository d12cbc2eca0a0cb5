use Rattle.socket.proofs.Waits.{take_steps}
use Rattle.socket.proofs.SocketPair.take.Goals as goal

pub returns : goal.returns
returns c = take_steps c.args.self.inner _ _ c.take_answer-a.ensures c.taken.ensures
