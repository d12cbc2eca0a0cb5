use Rattle.definition_script.specs.Listing.{stopped_state}
use mathlib.Core.Path.{refl}
use Rattle.feed.proofs.turn.stop.Goals as goal

pub returns : goal.returns
unfolding stopped_state
returns c = record { state = refl; next = refl; more = refl; text = c.stop.ensures.appends }
