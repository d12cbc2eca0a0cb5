use Rattle.port.proofs.waits.Operations.{drop_as}
use Rattle.port.proofs.waits.drop_waits.Goals as goal

pub returns : goal.returns
returns c =
    let a = c.args in
    rw (c.dropped.ensures, c.sound_answer.ensures, c.is_sound-sound.ensures) (drop_as a.one a.t)
