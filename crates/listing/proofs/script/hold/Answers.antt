use Rattle.listing.proofs.script.Complete.{claims}
use Rattle.listing.proofs.script.hold.Goals as goal

pub returns : goal.returns
returns c = claims
