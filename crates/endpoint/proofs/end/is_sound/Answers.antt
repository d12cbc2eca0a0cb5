use native.Mathlib.Omega.{arith}
use Rattle.std.proofs.lemmas.Bool.Decides.{nat_tests}
use Rattle.definition.specs.Status.{pick, ◌and◌}
use Rattle.definition.specs.Tests.{sound_queue}
use Rattle.endpoint.proofs.end.is_sound.Goals as goal

pub returns-then-not-datagram : goal.returns-then-not-datagram
unfolding sound_queue pick ◌and◌
returns-then-not-datagram c = grind (arith, nat_tests)

pub returns-else-not-datagram : goal.returns-else-not-datagram
unfolding sound_queue pick ◌and◌
returns-else-not-datagram c = grind (arith, nat_tests)
