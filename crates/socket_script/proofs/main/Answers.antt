-- What the arrays hold is what a script finds before its first record.
use Rattle.std.proofs.Common.{rules, refl}
use Rattle.definition_script.specs.Listing.{start_machine}
use Rattle.socket_script.proofs.main.Goals as goal

pub run-requires : goal.run-requires
unfolding start_machine
run-requires c = record { starts = refl; least = search rules; most = search rules; room = search rules }
