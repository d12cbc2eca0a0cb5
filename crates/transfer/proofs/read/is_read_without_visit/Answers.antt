use mathlib.Core.Path.{refl}
use Rattle.definition.specs.Status.{◌and◌}
use Rattle.transfer.specs.read.ReadChange.{read_visits_none}
use Rattle.transfer.proofs.read.is_read_without_visit.Goals as goal

pub returns-then-not-peer : goal.returns-then-not-peer
unfolding ◌and◌ read_visits_none
returns-then-not-peer c = rw (c.in-Some.is, ← c.drained_visits.ensures, ← c.can_fire.ensures, ← c.peer.ensures, c.if-not-peer.true) refl

pub returns-else-not-peer : goal.returns-else-not-peer
unfolding ◌and◌ read_visits_none
returns-else-not-peer c = rw (c.in-Some.is, ← c.peer.ensures, c.if-not-peer.false) refl
