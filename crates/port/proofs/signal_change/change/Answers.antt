use Rattle.port.proofs.signal_change.Operations.{change_as}
use Rattle.port.proofs.signal_change.change.Goals as goal

pub returns : goal.returns
returns c =
    let a = c.args.a in
    rw (
      c.fired.ensures,
      c.sound_answer.ensures,
      c.pick-next.ensures,
      c.changed.ensures,
      c.is_sound-sound.ensures,
    ) (change_as a.one a.word a.clear a.set c.args.t)
