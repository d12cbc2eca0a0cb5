-- `run_script` meets its contract: the arrays are those that a script starts with.
use Rattle.definition_script.specs.Listing.{start_machine}
use Rattle.listing.proofs.listing.run_script.Goals as goal

pub returns : goal.returns
unfolding start_machine
returns c = c.run_on.ensures.text
