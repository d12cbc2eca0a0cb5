-- The part that is lent is the name.
use mathlib.Core.Path.{refl}
use Rattle.replay.specs.Replay.{first_name, missed_name}
use Rattle.replay.proofs.first_name.Goals as goal

pub returns-in-None : goal.returns-in-None
unfolding first_name missed_name
returns-in-None c = rw c.in-None.is refl

pub returns-in-Some : goal.returns-in-Some
unfolding first_name missed_name
returns-in-Some c = rw c.in-Some.is refl
