use mathlib.Core.Bool.{false}
use mathlib.Core.Path.{ap}
use Rattle.definition.specs.Status.{is_done, refuse_if, ◌then◌, pick}
use Rattle.definition.specs.Create.{numbers_answer, create_answer}
use Rattle.definition.specs.declared.Pair.{Pair}
use Rattle.feed.proofs.state.States.{mk_state}
use Rattle.definition_script.specs.Listing.{start_state}
use Rattle.feed.proofs.state.start.Goals as goal

pub returns : goal.returns
unfolding start_state create_answer numbers_answer refuse_if ◌then◌ is_done pick
returns c = ap (λ (x : Pair). mk_state x 0 false) c.create-s.ensures.pair
