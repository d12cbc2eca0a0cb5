-- The name lies within the entries, and the report has room.
use Rattle.std.proofs.Common.{refl}
use Rattle.replay.proofs.Entries.{name-within, replays}
use Rattle.replay.proofs.replay.Goals as goal

pub first_name-requires : goal.first_name-requires
first_name-requires c = name-within c.replay_all-r.ensures.tally

pub returns : goal.returns
returns c = replays c.requires refl c.replay_all-r.ensures c.first_name.ensures c.replay_all-r.auto.out c.report-n.ensures
